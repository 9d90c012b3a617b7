use Rattle.std.proofs.Common.{ap, ◌∙◌}
use Rattle.c_syntax.specs.Plain as plain
use Rattle.c_syntax.specs.Plain.{CExpr}
use Rattle.c_types.specs.Expressions.{judged}
use Rattle.c_helpers.specs.Fewer as fewer
use Rattle.c_fewer_operators.proofs.TreeLemmas.{layouts_at}
use Rattle.c_fewer_trees.proofs.parts.remade_member.Goals as goal

pub after_one-requires : goal.after_one-requires
after_one-requires c =
    let q = c.requires in
    (judged q.0 q.1, q.3.judged)

pub returns-clause-made : goal.returns-clause-made
returns-clause-made c = λ s x stands from.
    let at = c.args.at in
    record {
      tree = c.in_ok-tree.ensures ∙ (ap (λ (e : CExpr). plain.Member at e c.in_ok-text.text) from.tree ∙ ap (plain.Member at (fewer.fewer s x)) c.in_ok-text.ensures);
      judged = (c.in_ok-whole.ensures.judged (judged s x) s.tags from.judged (layouts_at c.args.types.now c.args.here.now s c.as_slice.result.now c.as_slice.ensures.value stands));
    }
