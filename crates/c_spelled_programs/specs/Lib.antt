pub mod Spelled
pub mod Laws
pub mod Tokens
pub mod SourceProgramsLaws
