mod Worked
pub mod Quiet
pub mod Jumping
pub mod Flowing
pub mod Closing
