pub mod Follows
pub mod Lies
pub mod Laws
