mod Judgement
mod TypeLemmas
mod WrittenLemmas
mod Sums
mod ExprLemmas
mod FormLemmas
mod KnownLemmas
mod AlikeLemmas
mod ValueLemmas
mod StmtLemmas
mod TagLemmas
mod ItemLemmas
mod Blocked
pub mod Staying
mod Helping
pub mod Texts
