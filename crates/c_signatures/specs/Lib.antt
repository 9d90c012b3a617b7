pub mod Blocks
pub mod Parameters
pub mod Signatures
