pub mod Code
pub mod Place
pub mod Laws
