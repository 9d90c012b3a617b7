pub mod Apart
pub mod Splitting
pub mod Splits
pub mod Turns
pub mod Uses
pub mod Words
