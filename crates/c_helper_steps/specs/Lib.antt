pub mod Postfix
pub mod Seen
