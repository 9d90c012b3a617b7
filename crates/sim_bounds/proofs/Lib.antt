pub mod Closed
mod Worked
