pub mod AddLemmas
pub mod JumpLemmas
