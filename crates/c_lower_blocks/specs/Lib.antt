pub mod Blocks
pub mod Laid
pub mod Standing
