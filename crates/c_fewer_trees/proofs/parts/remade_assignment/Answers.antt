use Rattle.c_syntax.specs.Plain as plain
use Rattle.c_types.specs.Expressions.{judged}
use Rattle.c_fewer_operators.proofs.TreeLemmas.{layouts_at}
use Rattle.c_fewer_trees.proofs.OnwardLemmas.{Onward, stands_on, judged_on, comes_on}
use Rattle.c_fewer_trees.proofs.parts.remade_assignment.Goals as goal

pub after_two-requires-clause-left : goal.after_two-requires-clause-left
after_two-requires-clause-left c =
    let q = c.requires in
    (judged q.0 q.1, q.4.judged)

pub after_two-requires-clause-right : goal.after_two-requires-clause-right
after_two-requires-clause-right c =
    let q = c.requires in
    (judged q.0 q.2, q.5.judged)

pub after_two-requires-clause-layouts : goal.after_two-requires-clause-layouts
after_two-requires-clause-layouts c =
    let q = c.requires in
    (q.0.tags, (layouts_at c.args.types.now c.args.here.now q.0 c.as_slice.result.now c.as_slice.ensures.value q.3))

pub assign_tree-requires : goal.assign_tree-requires
assign_tree-requires c =
    let q = c.requires in
    let f : Onward c.args.types.now c.after_two.new.types = record { grows = c.in_ok-whole.ensures.grows; tags = c.in_ok-whole.ensures.tags } in
    (q.0, q.1, q.2, stands_on f q.3, comes_on f q.4, comes_on f q.5)

pub returns-clause-made : goal.returns-clause-made
returns-clause-made c = λ s x y stands first second.
    let f : Onward c.args.types.now c.after_two.new.types = record { grows = c.in_ok-whole.ensures.grows; tags = c.in_ok-whole.ensures.tags } in
    let g : Onward c.after_two.new.types c.assign_tree.new.types = record { grows = c.in_ok-tree.ensures.grows; tags = c.in_ok-tree.ensures.tags } in
    let e = plain.Assign c.args.at c.args.op x y in
    let whole = (c.in_ok-whole.ensures.judged (judged s x) (judged s y) s.tags first.judged second.judged (layouts_at c.args.types.now c.args.here.now s c.as_slice.result.now c.as_slice.ensures.value stands)) in
    record { tree = c.in_ok-tree.ensures.tree s x y (stands_on f stands) (comes_on f first) (comes_on f second); judged = judged_on c.in_ok-whole.whole (judged s e) g whole }
