use Rattle.std.proofs.Common.{Option, sym, subst}
use Rattle.std.specs.Prelude.{IfOk}
use Rattle.c_syntax.specs.declared.tree.BinOp.{BinOp}
use Rattle.c_types.specs.Operands as plain
use Rattle.c_operands.specs.Seen.{IsOperand, IsJudged}
use Rattle.c_forms.proofs.apply.assigned.Goals as goal

pub returns-in-None-clause-judged : goal.returns-in-None-clause-judged
returns-in-None-clause-judged c = λ x y tags o p all.
    subst (λ (op : Option BinOp). IfOk c.assign.result (λ j. IsJudged (IsOperand c.assign.new.types) j (plain.assign_operand tags c.args.at op x y))) (sym c.in-None.is)
    (c.assign.ensures.judged tags x y o p)
