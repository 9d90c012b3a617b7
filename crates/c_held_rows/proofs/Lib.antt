pub mod Functions
pub mod Last
pub mod Loops
pub mod Views
