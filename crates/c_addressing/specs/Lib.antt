pub mod Classes
pub mod Here
pub mod Names
pub mod Places
