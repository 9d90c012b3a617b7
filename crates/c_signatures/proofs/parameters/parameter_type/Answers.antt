use Rattle.std.proofs.Common.{ℕ, sym, subst}
use Rattle.std.specs.Prelude.{Result, IfOk}
use Rattle.c_syntax.specs.View.{ty_of}
use Rattle.c_types.specs.declared.fault.TypeFault.{TypeFault}
use Rattle.c_types.specs.Types.{CType}
use Rattle.c_types.specs.Refusals.{Judged, after}
use Rattle.c_types.specs.Expressions as expressions
use Rattle.c_types.specs.Expressions.{written}
use Rattle.c_types.specs.Table.{HasType}
use Rattle.c_operands.specs.Seen.{IsJudged}
use Rattle.c_forms.proofs.PartLemmas.{ok_is}
use Rattle.c_signatures.proofs.parameters.parameter_type.Goals as goal

pub as_parameter-requires : goal.as_parameter-requires
as_parameter-requires c =
    let h = c.requires in
    let new = c.written.new.types in
    let p = c.args.p.now in
    let w = written h.0 p.pos (ty_of p.ty) in
    let k = ok_is (HasType new) c.in-Ok.number w (subst (λ (r : Result ℕ TypeFault). IsJudged (HasType new) r w) c.in-Ok.is (c.in_ok-ty.ensures.judged h.0 h.1.fits)) in
    (k.0, k.2)

pub returns-in-Ok-clause-judged : goal.returns-in-Ok-clause-judged
returns-in-Ok-clause-judged c = λ s h.
    let new = c.written.new.types in
    let p = c.args.p.now in
    let w = written s p.pos (ty_of p.ty) in
    let k = ok_is (HasType new) c.in-Ok.number w (subst (λ (r : Result ℕ TypeFault). IsJudged (HasType new) r w) c.in-Ok.is (c.in_ok-ty.ensures.judged s h.fits)) in
    subst (λ (q : Judged CType). IfOk c.as_parameter.result (λ j. IsJudged (HasType c.as_parameter.new.types) j (after q (λ t. expressions.parameter_type p.pos t)))) (sym k.1) (c.as_parameter.ensures.judged k.0 k.2)
