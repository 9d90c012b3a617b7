pub mod PlaceLemmas
pub mod ReachLemmas
pub mod GoingLemmas
pub mod CaseLemmas
pub mod FormLemmas
pub mod LocalLemmas
pub mod LabelLemmas
