pub mod StandingLemmas
pub mod ValueLemmas
