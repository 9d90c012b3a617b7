pub mod Linking
pub mod States
pub mod InCall
pub mod Machine
