pub mod Declared
pub mod Judged
pub mod Operators
pub mod Reasons
pub mod Stated
