pub mod Parts
pub mod Operators
pub mod Joint
pub mod Walk
pub mod Actions
pub mod Uses
pub mod Silent
