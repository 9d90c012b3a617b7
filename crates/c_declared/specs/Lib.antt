pub mod Figures
pub mod Held
pub mod Slots
pub mod Told
