pub mod Following
pub mod Lying
pub mod Entering
