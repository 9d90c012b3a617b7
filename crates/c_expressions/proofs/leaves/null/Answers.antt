use Rattle.c_types.specs.Types as types
use Rattle.c_expressions.proofs.leaves.null.Goals as goal

pub returns-clause-judged : goal.returns-clause-judged
returns-clause-judged c = c.value_at.ensures c.number.new.self types.Null c.in_ok-ty.ensures.number
