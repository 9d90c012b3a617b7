use Rattle.bf_memory.proofs.Stored.{holds_stored}
use Rattle.bf_memory.proofs.laws.stored_words_are_held.Goals as goal

pub returns : goal.returns
returns c = λ m s a v la lv holds. holds_stored m s a v la lv holds
