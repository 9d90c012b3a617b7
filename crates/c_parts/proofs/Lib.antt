pub mod WordResults
pub mod Piles
pub mod Leaving
pub mod Filling
pub mod Digits
