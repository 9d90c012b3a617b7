pub mod Here
pub mod Named
pub mod Behind
