pub mod Tracks
pub mod Laws
pub mod Starts
