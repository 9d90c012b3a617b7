pub mod TreeLemmas
pub mod ScopeLemmas
pub mod KeepLemmas
pub mod HeadLemmas
pub mod BlockLemmas
pub mod StandLemmas
pub mod GoingLemmas
pub mod PartLemmas
