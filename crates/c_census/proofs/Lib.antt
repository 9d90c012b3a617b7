pub mod MovedLemmas
pub mod GoingLemmas
pub mod LocalLemmas
pub mod TreeLemmas
pub mod MemberLemmas
pub mod TagLemmas
