mod Pieces
mod Nest
mod Typed
mod Linked
mod Spelled
pub mod Rows
