pub mod Kept
pub mod Dups
pub mod Acts
pub mod Serving
pub mod Performed
pub mod Coded
pub mod Lengths
pub mod InPlace
