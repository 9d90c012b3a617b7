pub mod Moves
pub mod Slotted
pub mod Pieces
pub mod Added
pub mod Turning
pub mod Held
pub mod Probe
pub mod Walked
