pub mod Landing
pub mod Few
pub mod Laws
pub mod Tails
pub mod OperatedLaws
pub mod StoredLaws
