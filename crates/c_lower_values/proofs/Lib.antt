mod SpellLemmas
mod FirstLemmas
