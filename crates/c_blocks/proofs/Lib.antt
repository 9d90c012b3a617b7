pub mod BlockLemmas
pub mod LocalLemmas
pub mod CountLemmas
