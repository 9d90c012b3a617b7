pub mod Parts
pub mod Readings
pub mod OneAnswer
pub mod Answered
