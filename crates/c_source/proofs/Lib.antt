pub mod Decided
pub mod Parsed
pub mod Prepares
