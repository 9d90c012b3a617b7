pub mod Blocks
pub mod Running
pub mod Ends
pub mod Steps
pub mod Told
pub mod Worked
