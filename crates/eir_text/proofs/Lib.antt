mod Steps
mod NameLemmas
mod Sorting
mod StepLemmas
pub mod Said
mod RefusalLemmas
mod ReadLemmas
pub mod Once
mod LawLemmas
mod TextLabels
mod BlockEnds
mod LowestLine
mod EachDefinition
pub mod Worked
