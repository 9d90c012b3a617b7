pub mod TableLemmas
pub mod EmitLemmas
