pub mod Digits
pub mod Follow
pub mod Emitted
pub mod Consequence
pub mod Worked
