use Rattle.std.proofs.Common.{sym, subst}
use Rattle.std.specs.Prelude.{IfOk}
use Rattle.c_syntax.specs.declared.tree.UnOp.{UnOp}
use Rattle.c_types.specs.Operands as plain
use Rattle.c_operands.specs.Seen.{IsOperand, IsJudged}
use Rattle.c_forms.proofs.apply.unary.Goals as goal

pub returns-in-Not-clause-judged : goal.returns-in-Not-clause-judged
returns-in-Not-clause-judged c = λ x tags o all.
    subst (λ (op : UnOp). IfOk c.negation.result (λ j. IsJudged (IsOperand c.negation.new.types) j (plain.unary_operand tags c.args.at op x))) (sym c.in-Not.is)
    (c.negation.ensures.judged tags x o)
