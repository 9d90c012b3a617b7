pub mod Note
pub mod Pose
pub mod Tell
pub mod Goal
