use Rattle.std.proofs.Common.{ℕ, List, sym, subst}
use Rattle.std.specs.Prelude.{Result}
use Rattle.c_syntax.specs.View.{ty_of, maybe_value}
use Rattle.c_types.specs.declared.fault.TypeFault.{TypeFault}
use Rattle.c_types.specs.Types.{CType}
use Rattle.c_types.specs.Refusals.{Judged, after}
use Rattle.c_types.specs.Expressions.{written}
use Rattle.c_types.specs.Declarations.{completed, object_type}
use Rattle.c_types.specs.Table.{known, HasType}
use Rattle.c_layouts.specs.declared.layout.Layout.{Layout}
use Rattle.c_layouts.specs.Layouts.{AreLayouts}
use Rattle.c_operands.specs.Seen.{IsJudged}
use Rattle.c_operands.proofs.OperandLemmas.{type_within}
use Rattle.c_forms.proofs.PartLemmas.{ok_is}
use Rattle.c_declared.proofs.HeldLemmas.{holds_kept}
use Rattle.c_declarations.proofs.types.declared_type.Goals as goal

pub as_object-requires : goal.as_object-requires
as_object-requires c =
    let h = c.requires in
    let mid = c.written.new.types in
    let d = c.args.d.now in
    let p = written h.0 d.pos (ty_of d.ty) in
    let k = ok_is (HasType mid) c.in-Ok.number p (subst (λ (r : Result ℕ TypeFault). IsJudged (HasType mid) r p) c.in-Ok.is (c.in_ok-ty.ensures.judged h.0 h.1.fits)) in
    type_within c.completed.new.types c.in_ok-whole-in-Ok.whole (completed k.0 (maybe_value d.first)) (c.in_ok-whole-in-Ok.ensures.completed k.0 k.2)

pub returns-in_ok-whole-in-Ok-clause-judged : goal.returns-in_ok-whole-in-Ok-clause-judged
returns-in_ok-whole-in-Ok-clause-judged c = λ s h.
    let old = c.args.types.now in
    let mid = c.written.new.types in
    let new = c.completed.new.types in
    let d = c.args.d.now in
    let p = written s d.pos (ty_of d.ty) in
    let k = ok_is (HasType mid) c.in-Ok.number p (subst (λ (r : Result ℕ TypeFault). IsJudged (HasType mid) r p) c.in-Ok.is (c.in_ok-ty.ensures.judged s h.fits)) in
    let at_mid = holds_kept old mid c.args.declared.now s c.in_ok-ty.ensures.grows c.in_ok-ty.ensures.tags h in
    let at_new = holds_kept mid new c.args.declared.now s c.in_ok-whole-in-Ok.ensures.grows c.in_ok-whole-in-Ok.ensures.tags at_mid in
    subst (λ (q : Judged CType). IsJudged (HasType new) c.as_object.result (after q (λ t. object_type s d.pos (completed t (maybe_value d.first))))) (sym k.1)
    (c.as_object.ensures s (completed k.0 (maybe_value d.first)) (c.in_ok-whole-in-Ok.ensures.completed k.0 k.2)
    (subst (λ (ls : List Layout). AreLayouts new ls s.tags) (sym c.as_slice-layouts.ensures.value) at_new.fits.layouts))
