pub mod ClassLemmas
pub mod DirectLemmas
pub mod HereLemmas
pub mod PlaceLemmas
pub mod SameLemmas
pub mod WordsLemmas
