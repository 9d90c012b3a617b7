use Rattle.std.proofs.Common.{sym, ◌∙◌}
use Rattle.c_fewer_operators.proofs.TreeLemmas.{whole}
use Rattle.c_fewer_operators.proofs.types.counted.Goals as goal

pub returns-then-at_most-clause-count : goal.returns-then-at_most-clause-count
returns-then-at_most-clause-count c = λ n counts.
    c.get.ensures.value ∙ (c.low.ensures n counts ∙ whole n (sym c.if-at_most.true ∙ c.at_most.ensures n counts))
