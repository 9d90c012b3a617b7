pub mod View
pub mod Shape
