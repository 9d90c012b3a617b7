pub mod Tape
pub mod Does
pub mod Slots
pub mod Code
pub mod Piece
pub mod Laws
