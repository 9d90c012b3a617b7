pub mod ItemLemmas
pub mod AnswerLemmas
pub mod BodyLemmas
