pub mod Resolved
pub mod Means
pub mod Laws
pub mod Same
pub mod ShownLaws
