use Rattle.std.proofs.Common.{not, ap, ◌∙◌}
use Rattle.c_eval.specs.Operators.{element_words}
use Rattle.c_fewer_operators.proofs.TreeLemmas.{layouts_at, not_wide, wide_by}
use Rattle.c_fewer_operators.proofs.types.is_wide.Goals as goal

pub returns : goal.returns
returns c = λ s t stands has.
    ap not (c.at_most.ensures (element_words s.tags t) (c.elements.ensures t s.tags has (layouts_at c.args.types.now c.args.here.now s c.as_slice.result.now c.as_slice.ensures.value stands))) ∙ (not_wide (element_words s.tags t) ∙ wide_by s.tags t)
