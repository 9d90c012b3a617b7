pub mod Slowdown
pub mod Code
pub mod Text
pub mod Related
pub mod Laws
pub mod Commands
pub mod Pieces
