pub mod TurnsLemmas
pub mod PlayLemmas
pub mod WovenLemmas
pub mod MaderunsLemmas
