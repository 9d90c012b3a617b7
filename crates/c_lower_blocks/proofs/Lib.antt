pub mod LaidLemmas
pub mod InsideLemmas
pub mod StandingLemmas
