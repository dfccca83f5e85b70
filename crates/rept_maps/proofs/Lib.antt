pub mod MapLemmas
pub mod NameLemmas
pub mod Parts
pub mod NotesLemmas
pub mod MappedLemmas
pub mod MapfilesLemmas
