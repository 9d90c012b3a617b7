pub mod KindLemmas
pub mod MapLemmas
pub mod StructLemmas
