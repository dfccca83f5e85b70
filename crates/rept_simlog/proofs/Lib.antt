pub mod Entries
pub mod Numerals
pub mod Reading
pub mod HartlogLemmas
pub mod RecordingLemmas
pub mod QemuLemmas
