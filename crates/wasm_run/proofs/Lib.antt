pub mod TableLemmas
pub mod StateLemmas
pub mod MachineLemmas
pub mod HeldSteps
pub mod StartLemmas
