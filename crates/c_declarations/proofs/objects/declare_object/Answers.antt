use Rattle.std.proofs.Common.{◌≡◌, ℕ, sym, subst}
use Rattle.std.specs.Prelude.{Result, IfOk, OnOk}
use Rattle.std.specs.Result.{result_err}
use Rattle.c_syntax.specs.View.{decl_of}
use Rattle.c_types.specs.declared.fault.TypeFault.{TypeFault}
use Rattle.c_types.specs.Types.{CType}
use Rattle.c_types.specs.Refusals.{Judged, after}
use Rattle.c_types.specs.Declarations.{declared_type, declared_object, scope_or}
use Rattle.c_types.specs.Table.{HasType}
use Rattle.c_operands.specs.Seen.{IsJudged}
use Rattle.c_forms.proofs.PartLemmas.{ok_is, err_is}
use Rattle.c_declared.specs.Held.{Holds}
use Rattle.c_declared.proofs.HeldLemmas.{holds_kept, held_kept}
use Rattle.c_declarations.proofs.objects.declare_object.Goals as goal

pub declare_as-requires-clause-holds : goal.declare_as-requires-clause-holds
declare_as-requires-clause-holds c = held_kept c.args.types.now c.declared_type.new.types c.args.declared.now c.in_ok-ty.ensures.grows c.in_ok-ty.ensures.tags c.requires

pub returns-in-Ok-clause-judged : goal.returns-in-Ok-clause-judged
returns-in-Ok-clause-judged c = λ s h.
    let new = c.declared_type.new.types in
    let d = decl_of c.args.d.now in
    let p = declared_type s d in
    let k = ok_is (HasType new) c.in-Ok.number p (subst (λ (r : Result ℕ TypeFault). IsJudged (HasType new) r p) c.in-Ok.is (c.in_ok-ty.ensures.judged s h)) in
    subst (λ (q : Judged CType). IfOk c.declare_as.result (λ r. r ≡ result_err (after q (λ t. declared_object s c.args.file d t)))) (sym k.1)
    (c.declare_as.ensures.told s k.0 (holds_kept c.args.types.now new c.args.declared.now s c.in_ok-ty.ensures.grows c.in_ok-ty.ensures.tags h) k.2)

pub returns-in-Ok-clause-holds : goal.returns-in-Ok-clause-holds
returns-in-Ok-clause-holds c = λ s h.
    let new = c.declared_type.new.types in
    let d = decl_of c.args.d.now in
    let p = declared_type s d in
    let k = ok_is (HasType new) c.in-Ok.number p (subst (λ (r : Result ℕ TypeFault). IsJudged (HasType new) r p) c.in-Ok.is (c.in_ok-ty.ensures.judged s h)) in
    subst (λ (q : Judged CType). OnOk c.declare_as.result (Holds c.declare_as.new.types c.declare_as.new.declared (scope_or s (after q (λ t. declared_object s c.args.file d t))))) (sym k.1)
    (c.declare_as.ensures.holds s k.0 (holds_kept c.args.types.now new c.args.declared.now s c.in_ok-ty.ensures.grows c.in_ok-ty.ensures.tags h) k.2)

pub returns-in-Err-clause-holds : goal.returns-in-Err-clause-holds
returns-in-Err-clause-holds c = λ s h.
    let new = c.declared_type.new.types in
    let d = decl_of c.args.d.now in
    let p = declared_type s d in
    let e = err_is (HasType new) c.in-Err.fault p (subst (λ (r : Result ℕ TypeFault). IsJudged (HasType new) r p) c.in-Err.is (c.in_ok-ty.ensures.judged s h)) in
    subst (λ (q : Judged CType). Holds new c.args.declared.now (scope_or s (after q (λ t. declared_object s c.args.file d t)))) (sym e)
    (holds_kept c.args.types.now new c.args.declared.now s c.in_ok-ty.ensures.grows c.in_ok-ty.ensures.tags h)
