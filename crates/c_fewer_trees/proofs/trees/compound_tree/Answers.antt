use Rattle.std.proofs.Common.{Some, ap, ◌∙◌}
use Rattle.c_syntax.specs.Plain as plain
use Rattle.c_syntax.specs.Plain.{CExpr}
use Rattle.c_syntax.specs.View.{expr_of}
use Rattle.c_types.specs.Expressions.{judged}
use Rattle.c_eval.specs.Environment.{type_in, value_type_in}
use Rattle.c_operands.proofs.OperandLemmas.{type_within}
use Rattle.c_helpers.specs.Fewer as fewer
use Rattle.c_fewer_operators.proofs.TreeLemmas.{made}
use Rattle.c_fewer_trees.proofs.OnwardLemmas.{Onward, then_on, stands_on, judged_on, type_on}
use Rattle.c_fewer_trees.proofs.trees.compound_tree.Goals as goal

pub type_of-requires : goal.type_of-requires
type_of-requires c =
    let q = c.requires in
    (judged q.0 q.1, q.4.judged)

pub value_type-requires : goal.value_type-requires
value_type-requires c =
    let q = c.requires in
    let f : Onward c.args.types.now c.type_of.new.types = record { grows = c.in_ok-t.ensures.grows; tags = c.in_ok-t.ensures.tags } in
    (judged q.0 q.2, judged_on c.args.b.judged (judged q.0 q.2) f q.5.judged)

pub assignment_tree-requires-clause-left : goal.assignment_tree-requires-clause-left
assignment_tree-requires-clause-left c =
    let q = c.requires in
    let g : Onward c.type_of.new.types c.value_type.new.types = record { grows = c.in_ok-u.ensures.grows; tags = c.in_ok-u.ensures.tags } in
    type_within c.value_type.new.types c.in_ok-t.t (type_in q.0 q.1) (type_on c.in_ok-t.t (type_in q.0 q.1) g (c.in_ok-t.ensures.ty (judged q.0 q.1) q.4.judged))

pub assignment_tree-requires-clause-right : goal.assignment_tree-requires-clause-right
assignment_tree-requires-clause-right c =
    let q = c.requires in
    let f : Onward c.args.types.now c.type_of.new.types = record { grows = c.in_ok-t.ensures.grows; tags = c.in_ok-t.ensures.tags } in
    type_within c.value_type.new.types c.in_ok-u.u (value_type_in q.0 q.2) (c.in_ok-u.ensures.ty (judged q.0 q.2) (judged_on c.args.b.judged (judged q.0 q.2) f q.5.judged))

pub returns-clause-tree : goal.returns-clause-tree
returns-clause-tree c = λ s x y stands first second.
    let f : Onward c.args.types.now c.type_of.new.types = record { grows = c.in_ok-t.ensures.grows; tags = c.in_ok-t.ensures.tags } in
    let g : Onward c.type_of.new.types c.value_type.new.types = record { grows = c.in_ok-u.ensures.grows; tags = c.in_ok-u.ensures.tags } in
    let at = c.args.at in
    let op = c.args.op in
    let sign = (fewer.sign_of op (fewer.counts_unsigned op (type_in s x) (value_type_in s y))) in
    made c.assignment_tree.result (fewer.assignment_tree s.tags at sign op (type_in s x) (value_type_in s y) (expr_of c.args.a.tree) (expr_of c.args.b.tree)) (fewer.fewer s (plain.Assign at (Some op) x y))
    (ap (λ (e : CExpr). fewer.assignment_tree s.tags at sign op (type_in s x) (value_type_in s y) e (expr_of c.args.b.tree)) first.tree
    ∙ ap (fewer.assignment_tree s.tags at sign op (type_in s x) (value_type_in s y) (fewer.fewer s x)) second.tree)
    (c.assignment_tree.ensures s (type_in s x) (value_type_in s y) (stands_on (then_on f g) stands) (type_on c.in_ok-t.t (type_in s x) g (c.in_ok-t.ensures.ty (judged s x) first.judged)) (c.in_ok-u.ensures.ty (judged s y) (judged_on c.args.b.judged (judged s y) f second.judged)))
