pub mod Members
pub mod Sites
