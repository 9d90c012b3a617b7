pub mod Walked
pub mod Stored
pub mod Framed
pub mod Bodies
pub mod Reached
pub mod Seated
pub mod Found
pub mod Loaded
