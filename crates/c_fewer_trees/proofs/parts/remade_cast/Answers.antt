use Rattle.std.proofs.Common.{ap, ◌∙◌}
use Rattle.c_syntax.specs.Plain as plain
use Rattle.c_syntax.specs.Plain.{CTy}
use Rattle.c_syntax.specs.View.{expr_of}
use Rattle.c_types.specs.Expressions.{judged, written}
use Rattle.c_helpers.specs.Fewer as fewer
use Rattle.c_fewer_trees.proofs.parts.remade_cast.Goals as goal

pub after_cast-requires-clause-ty : goal.after_cast-requires-clause-ty
after_cast-requires-clause-ty c =
    c.requires.ty

pub after_cast-requires-clause-operand : goal.after_cast-requires-clause-operand
after_cast-requires-clause-operand c =
    (judged c.requires.part.0 c.requires.part.1, c.requires.part.3.judged)

pub returns-clause-made : goal.returns-clause-made
returns-clause-made c = λ s w x stands ty tree from.
    record {
      tree = c.in_ok-tree.ensures ∙ (ap (λ (k : CTy). plain.Cast c.args.at k (expr_of c.args.a.tree)) tree ∙ ap (plain.Cast c.args.at (fewer.fewer_in_type s w)) from.tree);
      judged = c.in_ok-whole.ensures.judged (written s c.args.at w) (judged s x) ty from.judged;
    }
