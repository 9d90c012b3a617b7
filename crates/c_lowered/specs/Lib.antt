pub mod Locations
pub mod Operations
pub mod Counts
pub mod Expressions
pub mod Statements
pub mod Whole
pub mod Laws
