pub mod Heads
pub mod Passed
