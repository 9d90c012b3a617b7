pub mod Adds
pub mod Parts
