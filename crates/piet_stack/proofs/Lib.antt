pub mod Codes
pub mod Digits
pub mod Effects
pub mod Values
pub mod Deep
pub mod Pairs
