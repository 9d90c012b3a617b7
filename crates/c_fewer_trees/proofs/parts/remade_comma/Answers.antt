use Rattle.std.proofs.Common.{ap, ◌∙◌}
use Rattle.c_syntax.specs.Plain as plain
use Rattle.c_syntax.specs.Plain.{CExpr}
use Rattle.c_syntax.specs.View.{expr_of}
use Rattle.c_types.specs.Expressions.{judged}
use Rattle.c_helpers.specs.Fewer as fewer
use Rattle.c_fewer_operators.proofs.TreeLemmas.{layouts_at}
use Rattle.c_fewer_trees.proofs.parts.remade_comma.Goals as goal

pub after_two-requires-clause-left : goal.after_two-requires-clause-left
after_two-requires-clause-left c =
    let q = c.requires in
    (judged q.0 q.1, q.4.judged)

pub after_two-requires-clause-right : goal.after_two-requires-clause-right
after_two-requires-clause-right c =
    let q = c.requires in
    (judged q.0 q.2, q.5.judged)

pub after_two-requires-clause-layouts : goal.after_two-requires-clause-layouts
after_two-requires-clause-layouts c =
    let q = c.requires in
    (q.0.tags, (layouts_at c.args.types.now c.args.here.now q.0 c.as_slice.result.now c.as_slice.ensures.value q.3))

pub returns-clause-made : goal.returns-clause-made
returns-clause-made c = λ s x y stands first second.
    record {
      tree = c.in_ok-tree.ensures ∙ (ap (λ (e : CExpr). plain.Comma c.args.at e (expr_of c.args.b.tree)) first.tree ∙ ap (plain.Comma c.args.at (fewer.fewer s x)) second.tree);
      judged = (c.in_ok-whole.ensures.judged (judged s x) (judged s y) s.tags first.judged second.judged (layouts_at c.args.types.now c.args.here.now s c.as_slice.result.now c.as_slice.ensures.value stands));
    }
