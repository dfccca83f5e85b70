mod FixedWriters
mod ThreadWriters
