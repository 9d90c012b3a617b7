use Rattle.std.proofs.Common.{ℕ, [], ◌∷◌, sym, subst}
use Rattle.std.specs.Prelude.{Result}
use Rattle.c_syntax.specs.View.{ty_of}
use Rattle.c_types.specs.declared.fault.TypeFault.{TypeFault}
use Rattle.c_types.specs.declared.fault.TypeFault.TheVariants as fault
use Rattle.c_types.specs.Types.{CType}
use Rattle.c_types.specs.Refusals.{Judged, after, keeping}
use Rattle.c_types.specs.Expressions.{written, is_result_type}
use Rattle.c_types.specs.Table.{HasType}
use Rattle.c_operands.specs.Seen.{IsJudged}
use Rattle.c_operands.proofs.OperandLemmas.{type_within}
use Rattle.c_forms.proofs.PartLemmas.{ok_is}
use Rattle.c_signatures.proofs.signature.result_type.Goals as goal

pub as_result-requires : goal.as_result-requires
as_result-requires c =
    let h = c.requires in
    let new = c.written.new.types in
    let w = written h.0 c.args.at (ty_of c.args.ty.now) in
    let k = ok_is (HasType new) c.in-Ok.number w (subst (λ (r : Result ℕ TypeFault). IsJudged (HasType new) r w) c.in-Ok.is (c.in_ok-gives.ensures.judged h.0 h.1.fits)) in
    type_within new c.in-Ok.number k.0 k.2

pub returns-in-Ok-clause-judged : goal.returns-in-Ok-clause-judged
returns-in-Ok-clause-judged c = λ s h.
    let new = c.written.new.types in
    let w = written s c.args.at (ty_of c.args.ty.now) in
    let k = ok_is (HasType new) c.in-Ok.number w (subst (λ (r : Result ℕ TypeFault). IsJudged (HasType new) r w) c.in-Ok.is (c.in_ok-gives.ensures.judged s h.fits)) in
    subst (λ (q : Judged CType). IsJudged (HasType new) c.as_result.result (after q (λ t. keeping ((is_result_type t, fault.Mismatch c.args.at) ∷ []) t))) (sym k.1) (c.as_result.ensures k.0 k.2)
