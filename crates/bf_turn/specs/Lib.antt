pub mod Number
pub mod Goal
pub mod Arm
pub mod Lookup
pub mod Turn
pub mod Code
