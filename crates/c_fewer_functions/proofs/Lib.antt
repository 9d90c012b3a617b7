pub mod BodyLemmas
pub mod RowLemmas
