pub mod Slowdown
pub mod Related
pub mod Laws
