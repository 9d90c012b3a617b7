pub mod ParameterLemmas
pub mod GoingLemmas
pub mod BlockLemmas
pub mod SignatureLemmas
