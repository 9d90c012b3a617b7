use Rattle.bf_word.proofs.Words.{word_set, word_kept, cell_kept}
use Rattle.bf_word.proofs.laws.words_are_set.Goals as goal

pub returns : goal.returns
returns c = record { there = word_set; words_kept = word_kept; cells_kept = cell_kept }
