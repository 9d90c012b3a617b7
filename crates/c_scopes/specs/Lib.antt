pub mod Stack
pub mod Blocks
