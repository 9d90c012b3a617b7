pub mod CalledLemmas
pub mod NamedLemmas
