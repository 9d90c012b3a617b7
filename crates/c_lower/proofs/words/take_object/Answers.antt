use Rattle.std.proofs.Common.{◌≡◌, ℕ, true, refl, sym, ap, subst, ◌∙◌}
use Rattle.std.specs.Prelude.{Result}
use Rattle.c_syntax.specs.View.{decl_of}
use Rattle.c_types.specs.declared.fault.TypeFault.{TypeFault}
use Rattle.c_types.specs.Scope.{Scope}
use Rattle.c_types.specs.Declarations.{declared, declared_type, scope_or}
use Rattle.c_types.specs.Known.{OneType}
use Rattle.c_types.specs.Table.{HasType}
use Rattle.c_operands.specs.Seen.{IsJudged}
use Rattle.c_forms.proofs.PartLemmas.{ok_is, err_is}
use Rattle.c_declared.proofs.HeldLemmas.{held_kept}
use Rattle.c_cells.specs.Structs.{AreStructKinds}
use Rattle.c_cells.proofs.StructLemmas.{struct_kinds_kept}
use Rattle.c_objects.specs.Made.{IsQuietFirst}
use Rattle.c_objects.proofs.PassedLemmas.{object_passed, ok_inner, no_object}
use Rattle.c_addressing.specs.declared.here.Output.{Output}
use Rattle.c_addressing.proofs.HereLemmas.{still}
use Rattle.c_applied.proofs.LeadsLemmas.{some_on}
use Rattle.c_lower_blocks.proofs.StandingLemmas.{next_number}
use Rattle.c_lower.specs.Words.{behind_name}
use Rattle.c_lower.proofs.WordLemmas.{at_still, object_passes}
use Rattle.c_lower.proofs.words.take_object.Goals as goal

pub declare_numbered-requires : goal.declare_numbered-requires
declare_numbered-requires c = held_kept c.args.out.now.types c.declared_type.new.types c.args.here.now.declared c.in_ok-ty.ensures.grows c.in_ok-ty.ensures.tags c.requires

pub add_first-requires-clause-holds : goal.add_first-requires-clause-holds
add_first-requires-clause-holds c = c.in_ok-declare_numbered.ensures.some

pub add_first-requires-clause-ty : goal.add_first-requires-clause-ty
add_first-requires-clause-ty c =
    let h = c.requires in
    let mid = c.declared_type.new.types in
    let p = declared_type h.0 (decl_of c.args.d.now) in
    let k = ok_is (HasType mid) c.in-Ok.t p (subst (λ (j : Result ℕ TypeFault). IsJudged (HasType mid) j p) c.in-Ok.is (c.in_ok-ty.ensures.judged h.0 h.1)) in
    (k.0, c.in_ok-declare_numbered.ensures.still.grows c.in-Ok.t (OneType k.0) k.2)

pub returns-in_ok-add_first-in-Ok-clause-some : goal.returns-in_ok-add_first-in-Ok-clause-some
returns-in_ok-add_first-in-Ok-clause-some c = some_on c.declare_numbered.new.out c.add_first.new.out c.declare_numbered.new.here.declared c.in_ok-add_first-in-Ok.ensures.keeps c.in_ok-declare_numbered.ensures.some

pub returns-in_ok-add_first-in-Ok-clause-tags : goal.returns-in_ok-add_first-in-Ok-clause-tags
returns-in_ok-add_first-in-Ok-clause-tags c = c.in_ok-add_first-in-Ok.ensures.keeps.tags ∙ (c.in_ok-declare_numbered.ensures.still.tags ∙ c.in_ok-ty.ensures.tags)

pub returns-in_ok-add_first-in-Ok-clause-passes : goal.returns-in_ok-add_first-in-Ok-clause-passes
returns-in_ok-add_first-in-Ok-clause-passes c = λ w env is ok.
    let s = env.scope in
    let d = decl_of c.args.d.now in
    let a = c.args.out.now in
    let a1 : Output = record a { types = c.declared_type.new.types } in
    let b = c.declare_numbered.new.out in
    let h = c.declare_numbered.new.here in
    let structs = c.args.structs.now in
    let n = c.in-Ok.t in
    let typed = still a a1 c.in_ok-ty.ensures.grows c.in_ok-ty.ensures.tags refl refl in
    let at = c.in_ok-declare_numbered.ensures.stands w env (at_still c.args.here.now a a1 w env typed is.at) is.next in
    let on = c.in_ok-declare_numbered.ensures.still in
    let p = ok_inner (declared s true d) ok in
    let o = object_passed s p.0 d p.1 in
    let k = ok_is (HasType a1.types) n (declared_type s d) (subst (λ (j : Result ℕ TypeFault). IsJudged (HasType a1.types) j (declared_type s d)) c.in-Ok.is (c.in_ok-ty.ensures.judged s is.at.here.holds)) in
    let place = behind_name d env in
    let scope : place.scope ≡ p.0 = ap (scope_or s) p.1 in
    let tags : place.scope.tags ≡ s.tags = ap (λ (r : Scope). r.tags) (scope ∙ o.is) in
    let same : b.types.tags ≡ a.types.tags = on.tags ∙ c.in_ok-ty.ensures.tags in
    let kinds : AreStructKinds b.types structs place.scope.tags = struct_kinds_kept a.types b.types structs place.scope.tags same (subst (AreStructKinds a.types structs) (sym tags) is.structs) in
    let quiet : IsQuietFirst place.scope d.first = subst (λ (r : Scope). IsQuietFirst r d.first) (sym scope) o.first in
    let adds = c.in_ok-add_first-in-Ok.ensures.words k.0 w place (on.grows n (OneType k.0) k.2) at kinds quiet in
    object_passes h structs b c.add_first.new.out c.in_ok-next.next w env d k.0 c.args.words.now.items c.add_first.new.words.items (next_number c.args.number c.in_ok-next.next env.next c.in_ok-next.ensures is.next) k.1 c.in_ok-add_first-in-Ok.ensures.keeps.tags kinds adds

pub returns-in-Err-clause-tags : goal.returns-in-Err-clause-tags
returns-in-Err-clause-tags c = c.in_ok-declare_numbered.ensures.still.tags ∙ c.in_ok-ty.ensures.tags

pub returns-in-Err-clause-passes : goal.returns-in-Err-clause-passes
returns-in-Err-clause-passes c = λ w env is ok.
    let s = env.scope in
    let d = decl_of c.args.d.now in
    let t1 = c.declared_type.new.types in
    let e = err_is (HasType t1) c.in-Err._fault (declared_type s d) (subst (λ (j : Result ℕ TypeFault). IsJudged (HasType t1) j (declared_type s d)) c.in-Err.is (c.in_ok-ty.ensures.judged s is.at.here.holds)) in
    absurd (no_object s d c.in-Err._fault e ok)
