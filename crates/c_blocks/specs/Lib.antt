pub mod Blocks
pub mod Counts
pub mod Objects
pub mod Standing
pub mod Locals
