pub mod Inside
pub mod Jumps
pub mod Frames
