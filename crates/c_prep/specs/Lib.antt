pub mod Macros
pub mod Directives
pub mod Lines
pub mod Prepared
pub mod Outcome
pub mod Views
pub mod Frames
pub mod Laws
