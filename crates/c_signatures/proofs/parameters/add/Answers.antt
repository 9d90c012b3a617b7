use Rattle.std.proofs.Common.{ℕ, Some, sym, subst}
use Rattle.std.specs.Prelude.{Result, IfOk}
use Rattle.c_syntax.specs.View.{decl_of}
use Rattle.c_types.specs.declared.fault.TypeFault.{TypeFault}
use Rattle.c_types.specs.Types.{CType}
use Rattle.c_types.specs.Refusals.{Judged, after}
use Rattle.c_types.specs.Units as plain
use Rattle.c_types.specs.Table.{HasType}
use Rattle.c_operands.specs.Seen.{IsJudged}
use Rattle.c_forms.proofs.PartLemmas.{ok_is, err_is}
use Rattle.c_declared.proofs.HeldLemmas.{holds_kept}
use Rattle.c_signatures.specs.Parameters.{typed_parameter, IsAdded}
use Rattle.c_signatures.proofs.ParameterLemmas.{refused_added}
use Rattle.c_signatures.proofs.parameters.add.Goals as goal

pub returns-in-Ok-clause-added : goal.returns-in-Ok-clause-added
returns-in-Ok-clause-added c = λ s h.
    let old = c.args.types.now in
    let new = c.parameter_type.new.types in
    let p = c.args.p.now in
    let w = plain.declared_parameter s (decl_of p) in
    let k = ok_is (HasType new) c.in-Ok.number w (subst (λ (r : Result ℕ TypeFault). IsJudged (HasType new) r w) c.in-Ok.is (c.in_ok-ty.ensures.judged s h)) in
    let now = holds_kept old new c.args.declared.now s c.in_ok-ty.ensures.grows c.in_ok-ty.ensures.tags h in
    subst (λ (q : Judged CType). IfOk c.add_typed.result (λ r. IsAdded new c.add_typed.new.declared c.args.parameters.now.items c.add_typed.new.parameters.items s p r (after q (λ t. typed_parameter s (decl_of p) t)))) (sym k.1)
    (c.add_typed.ensures.added s k.0 now k.2)

pub returns-in-Err-clause-added : goal.returns-in-Err-clause-added
returns-in-Err-clause-added c = λ s h.
    let old = c.args.types.now in
    let new = c.parameter_type.new.types in
    let p = c.args.p.now in
    let items = c.args.parameters.now.items in
    let w = plain.declared_parameter s (decl_of p) in
    let e = err_is (HasType new) c.in-Err.fault w (subst (λ (r : Result ℕ TypeFault). IsJudged (HasType new) r w) c.in-Err.is (c.in_ok-ty.ensures.judged s h)) in
    let now = holds_kept old new c.args.declared.now s c.in_ok-ty.ensures.grows c.in_ok-ty.ensures.tags h in
    subst (λ (q : Judged CType). IsAdded new c.args.declared.now items items s p (Some c.in-Err.fault) (after q (λ t. typed_parameter s (decl_of p) t))) (sym e)
    (refused_added new c.args.declared.now items s p c.in-Err.fault now)
