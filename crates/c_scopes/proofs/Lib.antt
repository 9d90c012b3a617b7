pub mod StackLemmas
pub mod BlockLemmas
