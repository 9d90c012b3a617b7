pub mod OnwardLemmas
pub mod PartLemmas
pub mod GivenLemmas
