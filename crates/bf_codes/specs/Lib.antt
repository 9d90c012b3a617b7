pub mod Exact
pub mod JumpCodesExact
