pub mod Steps
pub mod Entering
