pub mod ObjectLemmas
pub mod PassedLemmas
pub mod WalkLemmas
