mod UnusedLemmas
