use Rattle.c_syntax.specs.Plain as plain
use Rattle.c_types.specs.Expressions.{judged}
use Rattle.c_fewer_operators.proofs.TreeLemmas.{layouts_at}
use Rattle.c_fewer_trees.proofs.OnwardLemmas.{Onward, stands_on, judged_on, comes_on}
use Rattle.c_fewer_trees.proofs.parts.remade_step.Goals as goal

pub after_one-requires : goal.after_one-requires
after_one-requires c =
    let q = c.requires in
    (judged q.0 q.1, q.3.judged)

pub step_tree-requires : goal.step_tree-requires
step_tree-requires c =
    let q = c.requires in
    let f : Onward c.args.types.now c.after_one.new.types = record { grows = c.in_ok-whole.ensures.grows; tags = c.in_ok-whole.ensures.tags } in
    (q.0, q.1, stands_on f q.2, comes_on f q.3)

pub returns-clause-made : goal.returns-clause-made
returns-clause-made c = λ s x stands from.
    let f : Onward c.args.types.now c.after_one.new.types = record { grows = c.in_ok-whole.ensures.grows; tags = c.in_ok-whole.ensures.tags } in
    let g : Onward c.after_one.new.types c.step_tree.new.types = record { grows = c.in_ok-tree.ensures.grows; tags = c.in_ok-tree.ensures.tags } in
    let e = plain.Step c.args.at c.args.op x in
    let whole = (c.in_ok-whole.ensures.judged (judged s x) s.tags from.judged (layouts_at c.args.types.now c.args.here.now s c.as_slice.result.now c.as_slice.ensures.value stands)) in
    record { tree = c.in_ok-tree.ensures.tree s x (stands_on f stands) (comes_on f from); judged = judged_on c.in_ok-whole.whole (judged s e) g whole }
