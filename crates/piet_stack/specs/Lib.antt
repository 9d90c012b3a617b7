pub mod Code
pub mod Stack
pub mod Makes
