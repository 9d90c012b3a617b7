pub mod Rates
pub mod Counts
