mod SetLemmas
mod ReachedLemmas
mod BodyLemmas
mod GoingLemmas
