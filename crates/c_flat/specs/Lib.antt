pub mod Walk
pub mod Defined
pub mod Switches
pub mod Compiled
pub mod First
