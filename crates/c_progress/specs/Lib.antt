pub mod Places
pub mod Progress
