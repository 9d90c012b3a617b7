pub mod Cases
pub mod Standing
pub mod Told
