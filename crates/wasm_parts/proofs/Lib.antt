pub mod StackLemmas
pub mod Below
pub mod Paged
pub mod Fits
pub mod InPage
pub mod WordLemmas
pub mod JumpLemmas
pub mod FrameLemmas
