pub mod KeptLemmas
pub mod SizeLemmas
