pub mod Laid
pub mod Loaded
pub mod Simulated
pub mod Translated
pub mod Closed
pub mod Emitted
pub mod Coded
pub mod Short
