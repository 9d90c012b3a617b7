pub mod Slowdown
pub mod Code
pub mod Head
pub mod Related
pub mod Laws
pub mod Text
pub mod Branches
pub mod Putting
