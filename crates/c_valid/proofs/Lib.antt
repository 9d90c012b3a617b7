pub mod Keeping
pub mod Objects
pub mod Operators
pub mod Constants
pub mod Meanings
pub mod Runs
