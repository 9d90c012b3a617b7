pub mod Acts
pub mod Values
pub mod Words
pub mod Shown
pub mod Live
pub mod Inside
