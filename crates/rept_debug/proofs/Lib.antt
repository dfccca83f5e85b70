pub mod ListedLemmas
pub mod NoticeLemmas
pub mod OpenLemmas
pub mod Sought
pub mod TalkLemmas
pub mod DialogLemmas
