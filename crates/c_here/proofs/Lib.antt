pub mod HereLemmas
pub mod NamedLemmas
