pub mod HavocLemmas
