use Rattle.std.proofs.Common.{◌≡◌, Option, subst}
use Rattle.std.specs.Prelude.{Result, IfOk}
use Rattle.c_syntax.specs.View.{expr_of}
use Rattle.c_types.specs.declared.fault.TypeFault.{TypeFault}
use Rattle.c_types.specs.Expressions.{judged}
use Rattle.c_operands.specs.declared.operand.Operand.{Operand}
use Rattle.c_operands.specs.Seen.{IsOperand, IsJudged}
use Rattle.c_forms.proofs.PartLemmas.{ok_is}
use Rattle.c_declarations.specs.Sites.{site_of}
use Rattle.c_declarations.proofs.GoingLemmas.{one_fits, type_or_none_kept}
use Rattle.c_declarations.proofs.values.fit_one.Goals as goal

pub value_fault-requires-clause-a : goal.value_fault-requires-clause-a
value_fault-requires-clause-a c =
    let h = c.requires.holds in
    let new = c.judge.new.types in
    let p = judged h.0 (expr_of c.args.e.now) in
    let k = ok_is (IsOperand new) c.in-Ok.a p (subst (λ (r : Result Operand TypeFault). IsJudged (IsOperand new) r p) c.in-Ok.is (c.in_ok-value.ensures.judged h.0 h.1.fits)) in
    (k.0.ty, k.2.ty)

pub returns-in-Ok-clause-told : goal.returns-in-Ok-clause-told
returns-in-Ok-clause-told c = λ s t holds ty.
    let new = c.judge.new.types in
    let e = expr_of c.args.e.now in
    let p = judged s e in
    let k = ok_is (IsOperand new) c.in-Ok.a p (subst (λ (r : Result Operand TypeFault). IsJudged (IsOperand new) r p) c.in-Ok.is (c.in_ok-value.ensures.judged s holds.fits)) in
    subst (λ (z : Option TypeFault). IfOk c.value_fault.result (λ r. r ≡ z)) (one_fits s (site_of c.args.site) t e k.0 k.1)
    (c.value_fault.ensures.told k.0 t e k.2 (type_or_none_kept c.args.types.now new c.args.ty t c.in_ok-value.ensures.grows ty) c.figure_of.ensures)
