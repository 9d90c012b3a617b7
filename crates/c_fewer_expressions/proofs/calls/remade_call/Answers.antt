use Rattle.std.proofs.Common.{ℕ, List, map, Option, ap, subst, ◌∙◌}
use Rattle.std.specs.Prelude.{option_map}
use Rattle.c_syntax.specs.Plain.{CExpr, exprs}
use Rattle.c_syntax.specs.View.{expr_of}
use Rattle.c_types.specs.Refusals.{both}
use Rattle.c_types.specs.Operands.{call_operand}
use Rattle.c_types.specs.Expressions.{judged, all_judged, callee_of, format_of}
use Rattle.c_operands.specs.Seen.{IsOperand, IsJudged}
use Rattle.c_helpers.specs.Fewer as fewer
use Rattle.c_fewer_trees.proofs.OnwardLemmas.{Onward, stands_on}
use Rattle.c_fewer_expressions.proofs.calls.remade_call.Goals as goal

pub after_call-requires : goal.after_call-requires
after_call-requires c =
    let q = c.requires in
    (callee_of q.0 c.args.at q.1 (judged q.0 q.1), q.4.judged)

pub returns-clause-made : goal.returns-clause-made
returns-clause-made c = λ s f es stands called given same.
    let g : Onward c.args.types.now c.after_call.new.types = record { grows = c.in_ok-whole.ensures.grows; tags = c.in_ok-whole.ensures.tags } in
    let at = c.args.at in
    let what = callee_of s at f (judged s f) in
    let trees = exprs (map expr_of c.args.given.trees.items) in
    let format = option_map (λ n. n.now) c.args.format in
    record {
      tree = c.in_ok-tree.ensures s (stands_on g stands)
          ∙ (ap (λ (k : CExpr). fewer.call_tree s at k format trees) called.tree ∙ (ap (λ (o : Option (List ℕ)). fewer.call_tree s at (fewer.fewer s f) o trees) same ∙ ap (fewer.call_tree s at (fewer.fewer s f) (format_of es)) given.trees));
      judged = subst (λ (o : Option (List ℕ)). IsJudged (IsOperand c.after_call.new.types) c.in_ok-whole.whole (both what (all_judged s es) (λ k xs. call_operand at k o xs))) same
          (c.in_ok-whole.ensures.judged what (all_judged s es) called.judged given.judged);
    }
