pub mod Valuations
