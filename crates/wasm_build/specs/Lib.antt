pub mod Straight
pub mod Lead
pub mod Control
pub mod Words
pub mod Joined
pub mod Nested
