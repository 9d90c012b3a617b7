use Rattle.std.proofs.Common.{ap, ◌∙◌}
use Rattle.c_syntax.specs.Plain as plain
use Rattle.c_types.specs.Expressions.{judged}
use Rattle.c_eval.specs.Environment.{type_in}
use Rattle.c_fewer_operators.specs.Parts.{unary_tree}
use Rattle.c_fewer_operators.proofs.TreeLemmas.{layouts_at}
use Rattle.c_fewer_trees.proofs.OnwardLemmas.{Onward, stands_on, judged_on}
use Rattle.c_fewer_trees.proofs.PartLemmas.{unary_is}
use Rattle.c_fewer_trees.proofs.parts.remade_unary.Goals as goal

pub after_one-requires : goal.after_one-requires
after_one-requires c =
    let q = c.requires in
    (judged q.0 q.1, q.3.judged)

pub unary_tree-requires : goal.unary_tree-requires
unary_tree-requires c =
    let q = c.requires in
    let at = c.args.at in
    (judged q.0 (plain.Unary at c.args.op q.1), (c.in_ok-whole.ensures.judged (judged q.0 q.1) q.0.tags q.3.judged (layouts_at c.args.types.now c.args.here.now q.0 c.as_slice.result.now c.as_slice.ensures.value q.2)))

pub returns-clause-made : goal.returns-clause-made
returns-clause-made c = λ s x stands from.
    let f : Onward c.args.types.now c.after_one.new.types = record { grows = c.in_ok-whole.ensures.grows; tags = c.in_ok-whole.ensures.tags } in
    let g : Onward c.after_one.new.types c.unary_tree.new.types = record { grows = c.in_ok-tree.ensures.grows; tags = c.in_ok-tree.ensures.tags } in
    let at = c.args.at in
    let e = plain.Unary at c.args.op x in
    let whole = (c.in_ok-whole.ensures.judged (judged s x) s.tags from.judged (layouts_at c.args.types.now c.args.here.now s c.as_slice.result.now c.as_slice.ensures.value stands)) in
    record {
      tree = c.in_ok-tree.ensures.tree s (judged s e) (stands_on f stands) whole ∙ (ap (unary_tree at c.args.op (type_in s e)) from.tree ∙ unary_is s at c.args.op x);
      judged = judged_on c.in_ok-whole.whole (judged s e) g whole;
    }
