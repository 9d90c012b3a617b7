pub mod Shown
pub mod Piles
pub mod Opens
pub mod Parts
