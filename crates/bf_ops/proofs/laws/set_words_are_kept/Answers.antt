use Rattle.bf_ops.proofs.Kept.{set_words}
use Rattle.bf_ops.proofs.laws.set_words_are_kept.Goals as goal

pub returns : goal.returns
returns c = set_words
