use Rattle.std.proofs.Common.{ap}
use Rattle.c_syntax.specs.Plain as plain
use Rattle.c_syntax.specs.View.{expr_of}
use Rattle.c_types.specs.Expressions.{judged}
use Rattle.c_eval.specs.Environment.{type_in, operand_type}
use Rattle.c_operands.proofs.OperandLemmas.{type_within}
use Rattle.c_helpers.specs.Fewer as fewer
use Rattle.c_fewer_operators.proofs.TreeLemmas.{made}
use Rattle.c_fewer_trees.proofs.OnwardLemmas.{Onward, stands_on}
use Rattle.c_fewer_trees.proofs.trees.step_tree.Goals as goal

pub type_of-requires : goal.type_of-requires
type_of-requires c =
    (judged c.requires.0 c.requires.1, c.requires.3.judged)

pub step_tree-requires : goal.step_tree-requires
step_tree-requires c =
    let p = judged c.requires.0 c.requires.1 in
    type_within c.type_of.new.types c.in_ok-ty.ty (operand_type p) (c.in_ok-ty.ensures.ty p c.requires.3.judged)

pub returns-clause-tree : goal.returns-clause-tree
returns-clause-tree c = λ s x stands from.
    let f : Onward c.args.types.now c.type_of.new.types = record { grows = c.in_ok-ty.ensures.grows; tags = c.in_ok-ty.ensures.tags } in
    let at = c.args.at in
    made c.step_tree.result (fewer.step_tree s.tags at c.args.op (type_in s x) (expr_of c.args.a.tree)) (fewer.fewer s (plain.Step at c.args.op x))
    (ap (fewer.step_tree s.tags at c.args.op (type_in s x)) from.tree) (c.step_tree.ensures s (type_in s x) (stands_on f stands) (c.in_ok-ty.ensures.ty (judged s x) from.judged))
