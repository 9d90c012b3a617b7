pub mod Tables
pub mod Emits
