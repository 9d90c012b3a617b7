pub mod Aside
pub mod Cases
