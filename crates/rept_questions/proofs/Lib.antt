pub mod CallLemmas
pub mod LostLemmas
pub mod SpotLemmas
pub mod StackLemmas
pub mod TrailLemmas
pub mod WriterLemmas
