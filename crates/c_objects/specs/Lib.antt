pub mod Made
pub mod Passed
