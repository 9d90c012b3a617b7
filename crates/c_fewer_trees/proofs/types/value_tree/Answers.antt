use Rattle.std.proofs.Common.{subst, ◌∙◌}
use Rattle.std.specs.Prelude.{Result}
use Rattle.c_types.specs.declared.fault.TypeFault.{TypeFault}
use Rattle.c_operands.specs.declared.operand.Operand.{Operand}
use Rattle.c_operands.specs.Seen.{IsOperand, IsJudged}
use Rattle.c_fewer_trees.proofs.PartLemmas.{value_is, no_value, there}
use Rattle.c_fewer_trees.proofs.types.value_tree.Goals as goal

pub is_unsigned-requires : goal.is_unsigned-requires
is_unsigned-requires c =
    there c.args.types.now c.in-Ok.x c.requires.0 (subst (λ (j : Result Operand TypeFault). IsJudged (IsOperand c.args.types.now) j c.requires.0) c.in-Ok.is c.requires.1)

pub returns-in-Ok : goal.returns-in-Ok
returns-in-Ok c = λ p h.
    c.number.ensures ∙ value_is c.args.types.now c.in-Ok.x p c.word_of.result c.is_unsigned.result (subst (λ (j : Result Operand TypeFault). IsJudged (IsOperand c.args.types.now) j p) c.in-Ok.is h) c.word_of.ensures c.is_unsigned.ensures

pub returns-in-Err : goal.returns-in-Err
returns-in-Err c = λ p h.
    c.number-in-Err.ensures ∙ no_value c.args.types.now c.in-Err.field-0 p (subst (λ (j : Result Operand TypeFault). IsJudged (IsOperand c.args.types.now) j p) c.in-Err.is h)
