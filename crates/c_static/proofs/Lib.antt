pub mod CellLemmas
pub mod ConstantLemmas
pub mod FormLemmas
pub mod StringLemmas
