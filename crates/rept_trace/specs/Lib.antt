pub mod Fits
pub mod Grammar
pub mod Header
pub mod Opened
pub mod Packets
pub mod Shortened
pub mod Stream
pub mod Streams
