mod AddedLemmas
mod RowLemmas
mod ItemLemmas
pub mod SetLemmas
