pub mod Linked
pub mod Begun
