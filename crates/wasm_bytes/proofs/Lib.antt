pub mod Steps
pub mod Leb
pub mod Utf8
pub mod Signed
