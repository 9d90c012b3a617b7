use Rattle.c_eval.specs.Environment.{operand_type}
use Rattle.c_operands.proofs.OperandLemmas.{type_within}
use Rattle.c_fewer_trees.proofs.OnwardLemmas.{Onward, stands_on}
use Rattle.c_fewer_trees.proofs.trees.unary_tree.Goals as goal

pub unary_tree-requires : goal.unary_tree-requires
unary_tree-requires c =
    type_within c.type_of.new.types c.in_ok-ty.ty (operand_type c.requires.0) (c.in_ok-ty.ensures.ty c.requires.0 c.requires.1)

pub returns-clause-tree : goal.returns-clause-tree
returns-clause-tree c = λ s p stands h.
    let f : Onward c.args.types.now c.type_of.new.types = record { grows = c.in_ok-ty.ensures.grows; tags = c.in_ok-ty.ensures.tags } in
    c.unary_tree.ensures s (operand_type p) (stands_on f stands) (c.in_ok-ty.ensures.ty p h)
