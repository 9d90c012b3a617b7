mod GatherLemmas
mod ArgumentLemmas
