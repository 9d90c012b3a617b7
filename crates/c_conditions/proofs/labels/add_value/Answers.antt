use Rattle.std.proofs.Common.{sym, subst}
use Rattle.std.specs.Prelude.{Result}
use Rattle.c_syntax.specs.View.{expr_of}
use Rattle.c_types.specs.declared.fault.TypeFault.{TypeFault}
use Rattle.c_types.specs.Refusals.{Judged}
use Rattle.c_types.specs.Operands as plain
use Rattle.c_types.specs.Expressions.{judged}
use Rattle.c_operands.specs.declared.operand.Operand.{Operand}
use Rattle.c_operands.specs.Seen.{IsOperand, IsJudged}
use Rattle.c_forms.proofs.PartLemmas.{ok_is}
use Rattle.std.specs.Prelude.{◌++◌}
use Rattle.c_conditions.specs.Cases.{AreLabels, labels_in}
use Rattle.c_conditions.proofs.LabelLemmas.{valued}
use Rattle.c_conditions.proofs.labels.add_value.Goals as goal

pub returns-in_ok-add_case-in-Ok-clause-labels : goal.returns-in_ok-add_case-in-Ok-clause-labels
returns-in_ok-add_case-in-Ok-clause-labels c = λ s w ls fits h.
    let table = c.judge.new.types in
    let p = judged s (expr_of c.args.e.now) in
    let k = ok_is (IsOperand table) c.in-Ok.a p (subst (λ (r : Result Operand TypeFault). IsJudged (IsOperand table) r p) c.in-Ok.is (c.in_ok-value.ensures.judged s fits)) in
    subst (λ (q : Judged plain.Operand). AreLabels c.add_case.new.self (ls ++ labels_in (valued s c.args.at q))) (sym k.1) (c.in_ok-add_case-in-Ok.ensures table k.0 ls k.2 h)
