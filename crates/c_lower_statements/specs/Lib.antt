pub mod Pieces
pub mod Lowered
