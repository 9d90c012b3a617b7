pub mod CallLemmas
pub mod GivenLemmas
pub mod PartLemmas
pub mod TwoLemmas
