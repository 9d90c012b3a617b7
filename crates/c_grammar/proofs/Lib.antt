pub mod Codes
pub mod Sound
pub mod Examples
pub mod Useful
pub mod Alive
pub mod Reading
pub mod Follow
pub mod Choices
pub mod Behind
pub mod Determined
pub mod Exact
pub mod Deep
pub mod Limits
pub mod Endings
pub mod Valued
mod Worked
