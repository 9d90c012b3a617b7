pub mod Data
pub mod Related
pub mod Code
pub mod Whole
pub mod Emit
pub mod Laws
pub mod Own
