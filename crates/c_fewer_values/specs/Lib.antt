pub mod Helping
pub mod Laws
