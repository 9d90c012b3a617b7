pub mod NumberLemmas
pub mod Loops
pub mod Sound
pub mod SoundLines
pub mod Complete
pub mod CompleteLines
