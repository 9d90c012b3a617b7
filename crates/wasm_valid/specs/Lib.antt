pub mod Context
pub mod Effects
pub mod Nesting
pub mod Typing
pub mod Levels
pub mod Checking
pub mod Rules
pub mod Verdict
