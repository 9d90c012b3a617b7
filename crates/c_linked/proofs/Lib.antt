mod EntryLemmas
mod SlotLemmas
mod FrameLemmas
