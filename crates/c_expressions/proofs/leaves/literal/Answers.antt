use Rattle.std.proofs.Common.{refl, ap, ◌∙◌}
use Rattle.std.specs.Prelude.{is_some}
use Rattle.c_types.specs.Constants as constants
use Rattle.c_expressions.proofs.leaves.literal.Goals as goal

pub number-requires : goal.number-requires
number-requires c = ap is_some (c.number_shape.ensures c.args.types.now)

pub returns-clause-judged : goal.returns-clause-judged
returns-clause-judged c = record {
  at = refl;
  ty = c.in_ok-ty.ensures.number ∙ c.number_shape.ensures c.args.types.now;
  sort = c.number_sort-sort.ensures;
  constant = ap constants.Value c.wrap-word.ensures;
}
