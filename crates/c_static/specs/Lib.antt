pub mod Forms
pub mod File
pub mod Cells
pub mod Spelled
