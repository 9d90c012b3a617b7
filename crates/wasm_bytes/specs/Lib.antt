pub mod Outcome
pub mod Piece
pub mod Number
pub mod Text
pub mod Laws
