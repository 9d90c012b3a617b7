pub mod Laid
pub mod Pointed
pub mod Data
pub mod Functions
pub mod Rooms
pub mod Memories
pub mod Words
pub mod Fits
