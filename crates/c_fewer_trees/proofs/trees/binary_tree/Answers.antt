use Rattle.std.proofs.Common.{ap, ◌∙◌}
use Rattle.c_syntax.specs.Plain as plain
use Rattle.c_syntax.specs.Plain.{CExpr}
use Rattle.c_syntax.specs.View.{expr_of}
use Rattle.c_types.specs.Expressions.{judged}
use Rattle.c_eval.specs.Environment.{type_in, value_type_in, operand_type}
use Rattle.c_operands.proofs.OperandLemmas.{type_within}
use Rattle.c_helpers.specs.Fewer as fewer
use Rattle.c_fewer_operators.proofs.TreeLemmas.{made}
use Rattle.c_fewer_trees.proofs.OnwardLemmas.{Onward, then_on, stands_on, judged_on, type_on}
use Rattle.c_fewer_trees.proofs.trees.binary_tree.Goals as goal

pub type_of-requires : goal.type_of-requires
type_of-requires c =
    c.requires.whole

pub value_type-requires : goal.value_type-requires
value_type-requires c =
    let q = c.requires.parts in
    let f : Onward c.args.types.now c.type_of.new.types = record { grows = c.in_ok-ty.ensures.grows; tags = c.in_ok-ty.ensures.tags } in
    (judged q.0 q.1, judged_on c.args.a.judged (judged q.0 q.1) f q.4.judged)

pub value_type-requires-2 : goal.value_type-requires-2
value_type-requires-2 c =
    let q = c.requires.parts in
    let f : Onward c.args.types.now c.type_of.new.types = record { grows = c.in_ok-ty.ensures.grows; tags = c.in_ok-ty.ensures.tags } in
    let g : Onward c.type_of.new.types c.value_type.new.types = record { grows = c.in_ok-t.ensures.grows; tags = c.in_ok-t.ensures.tags } in
    (judged q.0 q.2, judged_on c.args.b.judged (judged q.0 q.2) (then_on f g) q.5.judged)

pub operator_tree-requires-clause-whole : goal.operator_tree-requires-clause-whole
operator_tree-requires-clause-whole c =
    let w = c.requires.whole in
    let g : Onward c.type_of.new.types c.value_type.new.types = record { grows = c.in_ok-t.ensures.grows; tags = c.in_ok-t.ensures.tags } in
    let k : Onward c.value_type.new.types c.value_type-2.new.types = record { grows = c.in_ok-u.ensures.grows; tags = c.in_ok-u.ensures.tags } in
    type_within c.value_type-2.new.types c.in_ok-ty.ty (operand_type w.0) (type_on c.in_ok-ty.ty (operand_type w.0) (then_on g k) (c.in_ok-ty.ensures.ty w.0 w.1))

pub operator_tree-requires-clause-left : goal.operator_tree-requires-clause-left
operator_tree-requires-clause-left c =
    let q = c.requires.parts in
    let f : Onward c.args.types.now c.type_of.new.types = record { grows = c.in_ok-ty.ensures.grows; tags = c.in_ok-ty.ensures.tags } in
    let g : Onward c.type_of.new.types c.value_type.new.types = record { grows = c.in_ok-t.ensures.grows; tags = c.in_ok-t.ensures.tags } in
    let k : Onward c.value_type.new.types c.value_type-2.new.types = record { grows = c.in_ok-u.ensures.grows; tags = c.in_ok-u.ensures.tags } in
    type_within c.value_type-2.new.types c.in_ok-t.t (value_type_in q.0 q.1) (type_on c.in_ok-t.t (value_type_in q.0 q.1) k (c.in_ok-t.ensures.ty (judged q.0 q.1) (judged_on c.args.a.judged (judged q.0 q.1) f q.4.judged)))

pub operator_tree-requires-clause-right : goal.operator_tree-requires-clause-right
operator_tree-requires-clause-right c =
    let q = c.requires.parts in
    let f : Onward c.args.types.now c.type_of.new.types = record { grows = c.in_ok-ty.ensures.grows; tags = c.in_ok-ty.ensures.tags } in
    let g : Onward c.type_of.new.types c.value_type.new.types = record { grows = c.in_ok-t.ensures.grows; tags = c.in_ok-t.ensures.tags } in
    type_within c.value_type-2.new.types c.in_ok-u.u (value_type_in q.0 q.2) (c.in_ok-u.ensures.ty (judged q.0 q.2) (judged_on c.args.b.judged (judged q.0 q.2) (then_on f g) q.5.judged))

pub returns-clause-tree : goal.returns-clause-tree
returns-clause-tree c = λ s x y stands first second whole.
    let f : Onward c.args.types.now c.type_of.new.types = record { grows = c.in_ok-ty.ensures.grows; tags = c.in_ok-ty.ensures.tags } in
    let g : Onward c.type_of.new.types c.value_type.new.types = record { grows = c.in_ok-t.ensures.grows; tags = c.in_ok-t.ensures.tags } in
    let k : Onward c.value_type.new.types c.value_type-2.new.types = record { grows = c.in_ok-u.ensures.grows; tags = c.in_ok-u.ensures.tags } in
    let at = c.args.at in
    let op = c.args.op in
    let w = type_in s (plain.Binary at op x y) in
    let sign = (fewer.sign_of op (fewer.counts_unsigned op (value_type_in s x) (value_type_in s y))) in
    let hw = type_on c.in_ok-ty.ty w (then_on g k) (c.in_ok-ty.ensures.ty (judged s (plain.Binary at op x y)) whole) in
    made c.operator_tree.result (fewer.operator_tree s.tags at sign op w (value_type_in s x) (value_type_in s y) (expr_of c.args.a.tree) (expr_of c.args.b.tree)) (fewer.fewer s (plain.Binary at op x y))
    (ap (λ (e : CExpr). fewer.operator_tree s.tags at sign op w (value_type_in s x) (value_type_in s y) e (expr_of c.args.b.tree)) first.tree
    ∙ ap (fewer.operator_tree s.tags at sign op w (value_type_in s x) (value_type_in s y) (fewer.fewer s x)) second.tree)
    (c.operator_tree.ensures s w (value_type_in s x) (value_type_in s y) (stands_on (then_on (then_on f g) k) stands) hw (type_on c.in_ok-t.t (value_type_in s x) k (c.in_ok-t.ensures.ty (judged s x) (judged_on c.args.a.judged (judged s x) f first.judged))) (c.in_ok-u.ensures.ty (judged s y) (judged_on c.args.b.judged (judged s y) (then_on f g) second.judged)))
