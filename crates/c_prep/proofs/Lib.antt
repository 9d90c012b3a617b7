pub mod Directing
pub mod Hiding
pub mod Naming
pub mod Giving
pub mod Expanding
pub mod Reading
pub mod Obeying
pub mod Preparing
pub mod Agreeing
pub mod Settling
mod Worked
