pub mod Lanes
pub mod Related
pub mod Laws
