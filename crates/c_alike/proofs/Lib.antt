pub mod Judged
pub mod Scopes
pub mod Blocks
