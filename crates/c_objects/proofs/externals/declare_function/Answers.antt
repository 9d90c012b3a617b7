use Rattle.std.proofs.Common.{sym, subst}
use Rattle.std.specs.Prelude.{Result, Ok, OnOk}
use Rattle.c_syntax.specs.View.{ty_of, decls_of}
use Rattle.c_types.specs.declared.fault.TypeFault.{TypeFault}
use Rattle.c_types.specs.Declarations.{scope_or}
use Rattle.c_types.specs.Refusals.{Judged, after}
use Rattle.c_types.specs.Units as plain
use Rattle.c_types.specs.Units.{signature, type_of, with_function}
use Rattle.c_operands.specs.Seen.{IsJudged}
use Rattle.c_forms.proofs.PartLemmas.{ok_is, err_is}
use Rattle.c_declared.specs.Held.{Holds}
use Rattle.c_signatures.specs.declared.signature.Signature.{Signature}
use Rattle.c_signatures.specs.Signatures.{IsSignature}
use Rattle.c_objects.proofs.externals.declare_function.Goals as goal

pub returns-in-Ok-clause-holds : goal.returns-in-Ok-clause-holds
returns-in-Ok-clause-holds c = λ s h.
    let new = c.judge_signature.new.types in
    let name = c.args.name.now in
    let p = signature s c.args.at (ty_of c.args.gives.now) (decls_of c.args.parameters.now.items.items) in
    let k = ok_is (IsSignature new s) c.in-Ok.f p (subst (λ (j : Result Signature TypeFault). IsJudged (IsSignature new s) j p) c.in-Ok.is (c.in_ok-signature.ensures.judged s h)) in
    subst (λ (q : Judged plain.Signature). OnOk c.declare_signed.result (Holds new c.declare_signed.new.declared (scope_or s (after q (λ f. Ok (with_function s name (type_of f) c.args.defines)))))) (sym k.1)
    (c.declare_signed.ensures s k.0 (c.in_ok-signature.ensures.holds s h) k.2)

pub returns-in-Err-clause-holds : goal.returns-in-Err-clause-holds
returns-in-Err-clause-holds c = λ s h.
    let new = c.judge_signature.new.types in
    let p = signature s c.args.at (ty_of c.args.gives.now) (decls_of c.args.parameters.now.items.items) in
    let e = err_is (IsSignature new s) c.in-Err._fault p (subst (λ (j : Result Signature TypeFault). IsJudged (IsSignature new s) j p) c.in-Err.is (c.in_ok-signature.ensures.judged s h)) in
    subst (λ (q : Judged plain.Signature). Holds new c.judge_signature.new.declared (scope_or s (after q (λ f. Ok (with_function s c.args.name.now (type_of f) c.args.defines))))) (sym e) (c.in_ok-signature.ensures.holds s h)
