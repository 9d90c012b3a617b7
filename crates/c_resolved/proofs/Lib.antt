pub mod Binding
pub mod Meant
pub mod Operating
pub mod Likeness
pub mod Reading
pub mod Writing
pub mod Blocks
pub mod Pointing
