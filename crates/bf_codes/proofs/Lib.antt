pub mod Parts
pub mod Worded
pub mod Reaching
pub mod Operated
pub mod Decoded
