pub mod Shapes
pub mod Sums
