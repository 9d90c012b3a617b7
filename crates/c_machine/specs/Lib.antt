pub mod Steps
pub mod States
pub mod Silent
pub mod Machines
