use Rattle.std.proofs.Common.{ap, ◌∙◌}
use Rattle.std.specs.Prelude.{is_some}
use Rattle.c_expressions.proofs.leaves.plain_type.Goals as goal

pub number-requires : goal.number-requires
number-requires c = ap is_some (c.requires.1 c.args.types.now)

pub returns-clause-judged : goal.returns-clause-judged
returns-clause-judged c = λ t h. c.in_ok-ty.ensures.number ∙ h c.args.types.now
