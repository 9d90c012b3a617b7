use Rattle.std.proofs.Common.{ap, ◌∙◌}
use Rattle.c_syntax.specs.Plain as plain
use Rattle.c_syntax.specs.Plain.{CExpr}
use Rattle.c_syntax.specs.View.{expr_of}
use Rattle.c_types.specs.Expressions.{judged}
use Rattle.c_helpers.specs.Fewer as fewer
use Rattle.c_fewer_trees.proofs.parts.remade_choice.Goals as goal

pub after_three-requires-clause-test : goal.after_three-requires-clause-test
after_three-requires-clause-test c =
    let q = c.requires in
    (judged q.0 q.1, q.5.judged)

pub after_three-requires-clause-first : goal.after_three-requires-clause-first
after_three-requires-clause-first c =
    let q = c.requires in
    (judged q.0 q.2, q.6.judged)

pub after_three-requires-clause-second : goal.after_three-requires-clause-second
after_three-requires-clause-second c =
    let q = c.requires in
    (judged q.0 q.3, q.7.judged)

pub returns-clause-made : goal.returns-clause-made
returns-clause-made c = λ s x y z stands test first second.
    record {
      tree = c.in_ok-tree.ensures ∙ (ap (λ (e : CExpr). plain.Cond c.args.at e (expr_of c.args.b.tree) (expr_of c.args.c.tree)) test.tree
          ∙ (ap (λ (e : CExpr). plain.Cond c.args.at (fewer.fewer s x) e (expr_of c.args.c.tree)) first.tree ∙ ap (plain.Cond c.args.at (fewer.fewer s x) (fewer.fewer s y)) second.tree));
      judged = c.in_ok-whole.ensures.judged (judged s x) (judged s y) (judged s z) test.judged first.judged second.judged;
    }
