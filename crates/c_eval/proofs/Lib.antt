pub mod Worked
mod WorkedHelpers
pub mod Following
pub mod Parts
pub mod Meanings
pub mod Wholes
pub mod Cells
