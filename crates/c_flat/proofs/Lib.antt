pub mod AddLemmas
pub mod ItemLemmas
pub mod ChargeLemmas
pub mod ObjectStart
pub mod WholeLemmas
mod FunctionLemmas
pub mod PlaceLemmas
pub mod CountLemmas
pub mod PlacedLemmas
pub mod LoopLemmas
pub mod GoingLemmas
pub mod LocalLemmas
pub mod StatementLemmas
pub mod FirstLemmas
