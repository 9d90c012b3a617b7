pub mod ByRegister
pub mod Folding
pub mod Trimming
pub mod Optimised
pub mod Alike
pub mod Laws
