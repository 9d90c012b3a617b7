pub mod PartLemmas
pub mod WrittenLemmas
pub mod BranchLemmas
pub mod ElementLemmas
pub mod GivenLemmas
pub mod MemberLemmas
pub mod PlaceLemmas
pub mod StepLemmas
