pub mod Rows
pub mod Asked
pub mod Tells
pub mod Headed
pub mod Decided
pub mod Lengths
