pub mod Conversions
pub mod Written
pub mod Formats
