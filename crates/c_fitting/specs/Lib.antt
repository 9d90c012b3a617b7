pub mod Good
pub mod Laws
pub mod Fit
pub mod Whole
pub mod Blocks
pub mod InBlocksLaws
pub mod FewerBlocksLaws
