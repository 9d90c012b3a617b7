use Rattle.std.proofs.Common.{ℕ, refl, sym, subst}
use Rattle.std.specs.Prelude.{Result, Err, IfOk}
use Rattle.c_types.specs.declared.fault.TypeFault.{TypeFault}
use Rattle.c_types.specs.Types.{CType}
use Rattle.c_types.specs.Refusals.{Judged, after}
use Rattle.c_types.specs.Operands.{size_operand}
use Rattle.c_types.specs.Table.{HasType}
use Rattle.c_operands.specs.Seen.{IsOperand, IsJudged}
use Rattle.c_forms.proofs.PartLemmas.{ok_is, err_is}
use Rattle.c_forms.proofs.parts.after_size.Goals as goal

pub size-requires : goal.size-requires
size-requires c =
    let table = c.args.types.now in
    let k = ok_is (HasType table) c.in-Ok.number c.requires.0 (subst (λ (r : Result ℕ TypeFault). IsJudged (HasType table) r c.requires.0) c.in-Ok.is c.requires.1) in
    (k.0, k.2)

pub returns-in-Ok-clause-judged : goal.returns-in-Ok-clause-judged
returns-in-Ok-clause-judged c = λ p tags h all.
    let table = c.args.types.now in
    let k = ok_is (HasType table) c.in-Ok.number p (subst (λ (r : Result ℕ TypeFault). IsJudged (HasType table) r p) c.in-Ok.is h) in
    subst (λ (q : Judged CType). IfOk c.size.result (λ j. IsJudged (IsOperand c.size.new.types) j (after q (λ t. size_operand tags c.args.at t)))) (sym k.1)
    (c.size.ensures.judged k.0 tags k.2 all)

pub returns-in-Err-clause-judged : goal.returns-in-Err-clause-judged
returns-in-Err-clause-judged c = λ p tags h all.
    let table = c.args.types.now in
    let e = err_is (HasType table) c.in-Err.fault p (subst (λ (r : Result ℕ TypeFault). IsJudged (HasType table) r p) c.in-Err.is h) in
    subst (λ (q : Judged CType). IsJudged (IsOperand table) (Err c.in-Err.fault) (after q (λ t. size_operand tags c.args.at t))) (sym e) refl
