pub mod VerdictLemmas
pub mod LabelLemmas
