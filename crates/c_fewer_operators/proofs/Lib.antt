pub mod SignLemmas
pub mod TreeLemmas
