pub mod GoingLemmas
pub mod MemberGoing
pub mod MemberLemmas
pub mod ObjectLemmas
pub mod TagLemmas
