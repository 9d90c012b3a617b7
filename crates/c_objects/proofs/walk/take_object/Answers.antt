use Rattle.std.proofs.Common.{◌≡◌, ◌∷◌, ℕ, List, true, Some, refl, sym, ap, subst, ◌∙◌}
use Rattle.std.specs.Prelude.{Result}
use Rattle.c_syntax.specs.View.{decl_of}
use Rattle.c_types.specs.declared.fault.TypeFault.{TypeFault}
use Rattle.c_types.specs.Scope.{Scope}
use Rattle.c_types.specs.Declarations.{declared, declared_type, scope_or}
use Rattle.c_types.specs.Known.{OneType}
use Rattle.c_types.specs.Table.{HasType}
use Rattle.c_operands.specs.Seen.{IsJudged}
use Rattle.c_forms.proofs.PartLemmas.{ok_is, err_is}
use Rattle.c_declared.proofs.HeldLemmas.{holds_kept, held_kept}
use Rattle.c_cells.specs.Structs.{AreStructKinds}
use Rattle.c_cells.proofs.StructLemmas.{struct_kinds_kept}
use Rattle.c_objects.specs.Made.{IsQuietFirst}
use Rattle.c_objects.proofs.PassedLemmas.{object_passed, ok_inner, no_object, on_both, on_three}
use Rattle.c_objects.proofs.WalkLemmas.{behind_name, object_made}
use Rattle.c_objects.proofs.walk.take_object.Goals as goal

pub declare_object-requires : goal.declare_object-requires
declare_object-requires c = held_kept c.args.types.now c.declared_type.new.types c.args.declared.now c.in_ok-ty.ensures.grows c.in_ok-ty.ensures.tags c.requires

pub add_object-requires-clause-holds : goal.add_object-requires-clause-holds
add_object-requires-clause-holds c =
    let h = c.requires in
    (scope_or h.0 (declared h.0 true (decl_of c.args.d.now)), c.in_ok-declare_object.ensures.holds h.0 (holds_kept c.args.types.now c.declared_type.new.types c.args.declared.now h.0 c.in_ok-ty.ensures.grows c.in_ok-ty.ensures.tags h.1))

pub add_object-requires-clause-ty : goal.add_object-requires-clause-ty
add_object-requires-clause-ty c =
    let h = c.requires in
    let mid = c.declared_type.new.types in
    let p = declared_type h.0 (decl_of c.args.d.now) in
    let k = ok_is (HasType mid) c.in-Ok.number p (subst (λ (j : Result ℕ TypeFault). IsJudged (HasType mid) j p) c.in-Ok.is (c.in_ok-ty.ensures.judged h.0 h.1)) in
    (k.0, c.in_ok-declare_object.ensures.grows c.in-Ok.number (OneType k.0) k.2)

pub returns-in-Ok-clause-some : goal.returns-in-Ok-clause-some
returns-in-Ok-clause-some c =
    let h = c.requires in
    let t2 = c.declare_object.new.types in
    let d1 = c.declare_object.new.declared in
    let s = scope_or h.0 (declared h.0 true (decl_of c.args.d.now)) in
    let holds = c.in_ok-declare_object.ensures.holds h.0 (holds_kept c.args.types.now c.declared_type.new.types c.args.declared.now h.0 c.in_ok-ty.ensures.grows c.in_ok-ty.ensures.tags h.1) in
    on_both c.add_object.result (λ grows tags. (s, holds_kept t2 c.add_object.new.types d1 s grows tags holds)) c.add_object.ensures.grows c.add_object.ensures.tags

pub returns-in-Ok-clause-makes : goal.returns-in-Ok-clause-makes
returns-in-Ok-clause-makes c = λ here new file kinds ok.
    let s = here.scope in
    let d = decl_of c.args.d.now in
    let t0 = c.args.types.now in
    let t1 = c.declared_type.new.types in
    let t2 = c.declare_object.new.types in
    let t3 = c.add_object.new.types in
    let d0 = c.args.declared.now in
    let d1 = c.declare_object.new.declared in
    let structs = c.args.structs.now in
    let number = c.in-Ok.number in
    let p = ok_inner (declared s true d) ok in
    let o = object_passed s p.0 d p.1 in
    let k = ok_is (HasType t1) number (declared_type s d) (subst (λ (j : Result ℕ TypeFault). IsJudged (HasType t1) j (declared_type s d)) c.in-Ok.is (c.in_ok-ty.ensures.judged s file.holds)) in
    let place = behind_name s d here in
    let scope : place.scope ≡ p.0 = ap (scope_or s) p.1 in
    let tags : place.scope.tags ≡ s.tags = ap (λ (r : Scope). r.tags) (scope ∙ o.is) in
    let holds = c.in_ok-declare_object.ensures.holds s (holds_kept t0 t1 d0 s c.in_ok-ty.ensures.grows c.in_ok-ty.ensures.tags file.holds) in
    let same : t2.tags ≡ t0.tags = c.in_ok-declare_object.ensures.tags ∙ c.in_ok-ty.ensures.tags in
    let kinds_there : AreStructKinds t2 structs place.scope.tags = struct_kinds_kept t0 t2 structs place.scope.tags same (subst (AreStructKinds t0 structs) (sym tags) kinds) in
    let quiet : IsQuietFirst place.scope d.first = subst (λ (r : Scope). IsQuietFirst r d.first) (sym scope) o.first in
    let name = ap (λ (n : List ℕ). (n, Some here.next) ∷ here.objects) (sym c.as_bytes-name.ensures) in
    let adds = c.add_object.ensures.object k.0 here place (c.in_ok-declare_object.ensures.grows number (OneType k.0) k.2) (record { objects = name; before = refl }) holds file.stands kinds_there quiet in
    on_three c.add_object.result
    (λ object grows tags. object_made t0 t3 d0 d1 structs c.args.out.now c.add_object.new.out here d p.0 k.0 new (tags ∙ same) p.1 k.1 file kinds (holds_kept t2 t3 d1 place.scope grows tags holds) object)
    adds c.add_object.ensures.grows c.add_object.ensures.tags

pub returns-in-Err-clause-some : goal.returns-in-Err-clause-some
returns-in-Err-clause-some c =
    let h = c.requires in
    (scope_or h.0 (declared h.0 true (decl_of c.args.d.now)), c.in_ok-declare_object.ensures.holds h.0 (holds_kept c.args.types.now c.declared_type.new.types c.args.declared.now h.0 c.in_ok-ty.ensures.grows c.in_ok-ty.ensures.tags h.1))

pub returns-in-Err-clause-makes : goal.returns-in-Err-clause-makes
returns-in-Err-clause-makes c = λ here new file kinds ok.
    let s = here.scope in
    let d = decl_of c.args.d.now in
    let t1 = c.declared_type.new.types in
    let e = err_is (HasType t1) c.in-Err._fault (declared_type s d) (subst (λ (j : Result ℕ TypeFault). IsJudged (HasType t1) j (declared_type s d)) c.in-Err.is (c.in_ok-ty.ensures.judged s file.holds)) in
    absurd (no_object s d c.in-Err._fault e ok)
