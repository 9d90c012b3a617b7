pub mod NumberLemmas
pub mod Loops
pub mod Lexing
pub mod Rows
pub mod LongestMarks
pub mod Spelled
pub mod Fronts
pub mod Runs
pub mod Parts
mod Worked
