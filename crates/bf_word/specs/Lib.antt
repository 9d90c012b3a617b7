pub mod Word
pub mod Steps
pub mod WordCode
pub mod Laws
