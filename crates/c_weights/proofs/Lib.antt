pub mod SumLemmas
pub mod WideLemmas
pub mod GoingLemmas
