pub mod Steps
pub mod Straightly
pub mod Ways
pub mod Overlaps
pub mod Joining
pub mod Nests
