pub mod Rooms
pub mod Begins
