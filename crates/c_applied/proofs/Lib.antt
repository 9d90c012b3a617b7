pub mod CalledLemmas
pub mod LeadsLemmas
pub mod PassedLemmas
pub mod PieceLemmas
