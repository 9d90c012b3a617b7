pub mod Leb
pub mod Written
pub mod Laws
pub mod Most
