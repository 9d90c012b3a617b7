pub mod Classes
pub mod Seen
pub mod Arguments
pub mod Scoped
