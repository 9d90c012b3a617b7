pub mod RowLemmas
pub mod KeptLemmas
pub mod FormLemmas
pub mod ToldLemmas
pub mod GoingLemmas
