pub mod Here
pub mod Parts
