use Rattle.std.proofs.Common.{◌≡◌, Some, refl, sym, subst}
use Rattle.std.specs.Prelude.{Result, IfOk, OnOk}
use Rattle.std.specs.Result.{result_err}
use Rattle.c_syntax.specs.View.{ty_of, decls_of, maybe_stmt}
use Rattle.c_types.specs.declared.fault.TypeFault.{TypeFault}
use Rattle.c_types.specs.Declarations.{scope_or}
use Rattle.c_types.specs.Refusals.{Judged, after}
use Rattle.c_types.specs.Units as plain
use Rattle.c_types.specs.Units.{signature, declared_function}
use Rattle.c_operands.specs.Seen.{IsJudged}
use Rattle.c_forms.proofs.PartLemmas.{ok_is, err_is}
use Rattle.c_declared.specs.Held.{Holds}
use Rattle.c_signatures.specs.declared.signature.Signature.{Signature}
use Rattle.c_signatures.specs.Signatures.{IsSignature}
use Rattle.c_check.proofs.functions.judge_function.Goals as goal

pub declare_function-requires : goal.declare_function-requires
declare_function-requires c =
    let h = c.requires in
    let new = c.judge_signature.new.types in
    let p = signature h.0 c.args.at (ty_of c.args.gives.now) (decls_of c.args.parameters.now.items.items) in
    let k = ok_is (IsSignature new h.0) c.in-Ok.f p (subst (λ (j : Result Signature TypeFault). IsJudged (IsSignature new h.0) j p) c.in-Ok.is (c.in_ok-signature.ensures.judged h.0 h.1)) in
    (h.0, k.0, c.in_ok-signature.ensures.holds h.0 h.1, k.2)

pub returns-in-Ok-clause-judged : goal.returns-in-Ok-clause-judged
returns-in-Ok-clause-judged c = λ s h.
    let new = c.judge_signature.new.types in
    let p = signature s c.args.at (ty_of c.args.gives.now) (decls_of c.args.parameters.now.items.items) in
    let k = ok_is (IsSignature new s) c.in-Ok.f p (subst (λ (j : Result Signature TypeFault). IsJudged (IsSignature new s) j p) c.in-Ok.is (c.in_ok-signature.ensures.judged s h)) in
    subst (λ (q : Judged plain.Signature). IfOk c.declare_function.result (λ r. r ≡ result_err (after q (λ f. declared_function s c.args.name.now c.args.at (maybe_stmt c.args.body.now) f)))) (sym k.1)
    (c.declare_function.ensures.judged s k.0 (c.in_ok-signature.ensures.holds s h) k.2)

pub returns-in-Ok-clause-holds : goal.returns-in-Ok-clause-holds
returns-in-Ok-clause-holds c = λ s h.
    let new = c.judge_signature.new.types in
    let p = signature s c.args.at (ty_of c.args.gives.now) (decls_of c.args.parameters.now.items.items) in
    let k = ok_is (IsSignature new s) c.in-Ok.f p (subst (λ (j : Result Signature TypeFault). IsJudged (IsSignature new s) j p) c.in-Ok.is (c.in_ok-signature.ensures.judged s h)) in
    subst (λ (q : Judged plain.Signature). OnOk c.declare_function.result (Holds c.declare_function.new.types c.declare_function.new.declared (scope_or s (after q (λ f. declared_function s c.args.name.now c.args.at (maybe_stmt c.args.body.now) f))))) (sym k.1)
    (c.declare_function.ensures.holds s k.0 (c.in_ok-signature.ensures.holds s h) k.2)

pub returns-in-Err-clause-judged : goal.returns-in-Err-clause-judged
returns-in-Err-clause-judged c = λ s h.
    let new = c.judge_signature.new.types in
    let p = signature s c.args.at (ty_of c.args.gives.now) (decls_of c.args.parameters.now.items.items) in
    let e = err_is (IsSignature new s) c.in-Err.fault p (subst (λ (j : Result Signature TypeFault). IsJudged (IsSignature new s) j p) c.in-Err.is (c.in_ok-signature.ensures.judged s h)) in
    subst (λ (q : Judged plain.Signature). Some c.in-Err.fault ≡ result_err (after q (λ f. declared_function s c.args.name.now c.args.at (maybe_stmt c.args.body.now) f))) (sym e) refl

pub returns-in-Err-clause-holds : goal.returns-in-Err-clause-holds
returns-in-Err-clause-holds c = λ s h.
    let new = c.judge_signature.new.types in
    let p = signature s c.args.at (ty_of c.args.gives.now) (decls_of c.args.parameters.now.items.items) in
    let e = err_is (IsSignature new s) c.in-Err.fault p (subst (λ (j : Result Signature TypeFault). IsJudged (IsSignature new s) j p) c.in-Err.is (c.in_ok-signature.ensures.judged s h)) in
    subst (λ (q : Judged plain.Signature). Holds new c.judge_signature.new.declared (scope_or s (after q (λ f. declared_function s c.args.name.now c.args.at (maybe_stmt c.args.body.now) f)))) (sym e) (c.in_ok-signature.ensures.holds s h)
