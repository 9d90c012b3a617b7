pub mod BuiltIns
pub mod Named
