pub mod Chosen
pub mod Lengths
pub mod Aimed
pub mod At
