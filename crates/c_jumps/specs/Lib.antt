pub mod Adds
pub mod Jumps
