use Rattle.std.proofs.Common.{◌-◌, ◌^◌, ℕ, false, ap, ◌∙◌}
use Rattle.c_syntax.specs.Plain as plain
use Rattle.c_eval.specs.Operators.{element_words}
use Rattle.c_fewer_operators.proofs.TreeLemmas.{layouts_at}
use Rattle.c_fewer_operators.proofs.types.words_back.Goals as goal

pub returns : goal.returns
returns c = λ s t stands has.
    c.number.ensures ∙ ap (λ (n : ℕ). plain.Number 0 (2 ^ 24 - n) false) (c.in_ok-count.ensures.count (element_words s.tags t) (c.elements.ensures t s.tags has (layouts_at c.args.types.now c.args.here.now s c.as_slice.result.now c.as_slice.ensures.value stands)))
