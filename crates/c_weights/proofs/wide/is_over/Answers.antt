use Rattle.c_types.specs.Types.{words_of}
use Rattle.c_weights.proofs.WideLemmas.{over}
use Rattle.c_weights.proofs.wide.is_over.Goals as goal

pub returns : goal.returns
returns c = λ t tags h all. over c.at_most.result (words_of tags t) (c.at_most.ensures (words_of tags t) (c.words.ensures t tags h all))
