pub mod Added
pub mod Rows
pub mod Items
pub mod Sets
