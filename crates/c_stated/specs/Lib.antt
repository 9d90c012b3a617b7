pub mod Flows
pub mod Statements
pub mod Texts
pub mod Laws
pub mod Worth
pub mod Counts
pub mod CostsLaws
