pub mod Running
pub mod CutLemmas
pub mod Sizes
mod Gluing
