pub mod Laws
pub mod Updates
pub mod UpdatesLaws
