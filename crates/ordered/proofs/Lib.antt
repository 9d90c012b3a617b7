mod EntryLemmas
mod PlaceLemmas
