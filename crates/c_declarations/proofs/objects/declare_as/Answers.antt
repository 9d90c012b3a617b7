use Rattle.std.proofs.Common.{◌≡◌, ℕ, List, [], ◌∷◌, sym, ap, subst, ◌∙◌}
use Rattle.std.specs.Prelude.{is_some, not}
use Rattle.c_syntax.specs.View.{maybe_value}
use Rattle.c_syntax.specs.Words.{meaning}
use Rattle.c_types.specs.declared.fault.TypeFault.TheVariants as fault
use Rattle.c_types.specs.Scope as scope
use Rattle.c_types.specs.Scope.{with_name, is_declared_here}
use Rattle.c_types.specs.Declarations.{first_fitting}
use Rattle.c_declared.specs.Held.{Holds}
use Rattle.c_declared.proofs.HeldLemmas.{holds_kept}
use Rattle.c_declarations.specs.Sites.{site_of}
use Rattle.c_declarations.proofs.ObjectLemmas.{new_as, object_told, object_scope}
use Rattle.c_declarations.proofs.objects.declare_as.Goals as goal

pub fit_first-requires-clause-holds : goal.fit_first-requires-clause-holds
fit_first-requires-clause-holds c =
    let h = c.requires.holds in
    let ty = c.requires.ty in
    (with_name h.0 c.as_bytes-name.result.now (scope.Object ty.0), c.in_ok-declare.ensures.holds h.0 (scope.Object ty.0) h.1 ty.1)

pub returns-clause-told : goal.returns-clause-told
returns-clause-told c = λ s t holds ty.
    let table = c.args.types.now in
    let d = c.args.d.now in
    let names = c.args.declared.now.names.block in
    let inner = with_name s d.name (scope.Object t) in
    let held = subst (λ (n : List ℕ). Holds table c.declare.new.declared (with_name s n (scope.Object t))) c.as_bytes-name.ensures (c.in_ok-declare.ensures.holds s (scope.Object t) holds ty) in
    let there = c.is_declared_here-is_new.result in
    let known : there ≡ is_some (meaning names d.name) = c.is_declared_here-is_new.ensures ∙ ap (λ (n : List ℕ). is_some (meaning names n)) c.as_bytes-name.ensures in
    object_told c.merged_behind-refusal.result c.in_ok-parts.parts c.broken_rule.result s inner d.name (first_fitting inner (record { file = c.args.file; pos = d.pos }) t (maybe_value d.first)) (not there) d.pos
    c.merged_behind-refusal.ensures (c.in_ok-parts.ensures.told inner t held ty) c.broken_rule.ensures (new_as table names s d.name there holds.fits.block known)

pub returns-clause-holds : goal.returns-clause-holds
returns-clause-holds c = λ s t holds ty.
    let old = c.args.types.now in
    let new = c.fit_first.new.types in
    let d = c.args.d.now in
    let inner = with_name s d.name (scope.Object t) in
    let told = returns-clause-told c s t holds ty in
    let held = subst (λ (n : List ℕ). Holds old c.declare.new.declared (with_name s n (scope.Object t))) c.as_bytes-name.ensures (c.in_ok-declare.ensures.holds s (scope.Object t) holds ty) in
    let now = holds_kept old new c.declare.new.declared inner c.in_ok-parts.ensures.grows c.in_ok-parts.ensures.tags held in
    subst (Holds new c.settle.new.declared)
    (object_scope c.merged_behind-refusal.result s inner (first_fitting inner (record { file = c.args.file; pos = d.pos }) t (maybe_value d.first)) ((not (is_declared_here s d.name), fault.Twice d.pos) ∷ []) told)
    (c.in_ok-settle.ensures.holds s d.name (scope.Object t) now)
