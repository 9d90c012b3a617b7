pub mod Steps
pub mod Laws
pub mod Decides
pub mod DecidedLaws
pub mod Calls
pub mod CallingLaws
pub mod QuietLaws
