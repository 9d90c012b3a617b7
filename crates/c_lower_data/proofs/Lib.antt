mod EntryLemmas
mod LetterLemmas
mod StaticLemmas
