-- Tags that are declared.
use Rattle.std.proofs.Common.{◌≡◌, ℕ, zero, suc, ◌<◌, Bool, true, false, nat_lt, List, [], ◌∷◌, length, map, set, Option, Some, None, refl, sym, ap, subst, ◌∙◌, if◌then◌else◌, arith}
use Rattle.std.proofs.lemmas.Bool.Decides.{nat_tests}
use Rattle.std.specs.Prelude.{Result, Ok, Err, slice_get, is_some, not}
use Rattle.std.specs.Option.{option_map_or}
use Rattle.std.specs.Result.{result_err}
use Rattle.std.proofs.lemmas.Option.{slice_get_within}
use Rattle.c_syntax.specs.Plain.{CDecl, CTag}
use Rattle.c_syntax.specs.Words.{meaning}
use Rattle.c_syntax.specs.View.{decl_of, decls_of}
use Rattle.c_syntax.specs.declared.tree.Decl.{Decl}
use Rattle.c_types.specs.declared.fault.TypeFault.{TypeFault}
use Rattle.c_types.specs.declared.fault.TypeFault.TheVariants as fault
use Rattle.c_types.specs.Types as types
use Rattle.c_types.specs.Types.{CType}
use Rattle.c_types.specs.Refusals.{Judged, Rule, broken, after, keeping}
use Rattle.c_types.specs.Scope.{Scope}
use Rattle.c_types.specs.Declarations.{members, tag_declared, with_tag, scope_or, is_tag, some_members, words_of_members}
use Rattle.c_types.specs.Known.{Grows}
use Rattle.c_types.specs.Table.{Table, known}
use Rattle.c_layouts.specs.declared.layout.Layout.{Layout}
use Rattle.c_layouts.specs.declared.layout.Layout.TheVariants as layout
use Rattle.c_layouts.specs.Layouts.{LayoutIsThere}
use Rattle.c_operands.specs.Arguments.{merged}
use Rattle.c_operands.proofs.LeastLemmas.{broken_first}
use Rattle.c_operands.specs.declared.declarations.Declarations.{Declarations}
use Rattle.c_declared.specs.Held.{Holds}
use Rattle.c_declared.proofs.HeldLemmas.{holds_kept}
use Rattle.c_declared.proofs.ToldLemmas.{kept_rules}
use Rattle.c_declared.proofs.TagLemmas.{set_back, tag_changed, layouts_back}
use Rattle.c_declarations.specs.Members.{IsClosed, tag_rules}

there : {X : Type 0} (o : Option X) → is_some o ≡ option_map_or (λ _. true) o false
there (Some x) = refl
there None = refl

-- a tag's own rules, the first one by what was known of it
pub tag_told : (s : Scope) (tag : CTag) (known full : Bool) (at : ℕ) (a b r : Option TypeFault) → a ≡ broken ((not known, fault.Twice at) ∷ []) → b ≡ broken ((full, fault.Mismatch at) ∷ [])
    → r ≡ merged a b → known ≡ is_some (meaning s.tags tag.name) → full ≡ some_members tag.members → at ≡ tag.pos → r ≡ broken (tag_rules s tag)
tag_told s tag known full at a b r f g h e p q =
    let same : not known ≡ not (is_tag s tag.name) = ap not (e ∙ there (meaning s.tags tag.name)) in
    h ∙ (ap (λ (o : Option TypeFault). merged o b) f
    ∙ (ap (λ (o : Option TypeFault). merged (broken ((not known, fault.Twice at) ∷ [])) o) g
    ∙ (sym (broken_first (not known) (fault.Twice at) ((full, fault.Mismatch at) ∷ []))
    ∙ (ap (λ (x : Bool). broken ((x, fault.Twice at) ∷ (full, fault.Mismatch at) ∷ [])) same
    ∙ (ap (λ (x : Bool). broken ((not (is_tag s tag.name), fault.Twice at) ∷ (x, fault.Mismatch at) ∷ [])) p
    ∙ ap (λ (n : ℕ). broken ((not (is_tag s tag.name), fault.Twice n) ∷ (some_members tag.members, fault.Mismatch n) ∷ [])) q)))))

abbrev pub inner : Scope → CTag → Scope
inner s tag = with_tag s tag.name types.Unfinished

abbrev closed_as : Scope → CTag → List (List ℕ × CType) → Scope
closed_as s tag ms = with_tag s tag.name (types.Members ms (words_of_members (inner s tag).tags ms))

abbrev declared_by : Scope → CTag → Judged (List (List ℕ × CType)) → Judged Scope
declared_by s tag p = after p (λ ms. keeping (tag_rules s tag) (closed_as s tag ms))

-- the refusal of a tag whose members are typed, and of one whose members aren't
pub tag_kept : (s : Scope) (tag : CTag) (ms : List (List ℕ × CType)) (r : Option TypeFault) → members (inner s tag) [] tag.members ≡ Ok ms → r ≡ broken (tag_rules s tag) → r ≡ result_err (tag_declared s tag)
tag_kept s tag ms r e h = h ∙ sym (ap (λ (p : Judged (List (List ℕ × CType))). result_err (declared_by s tag p)) e ∙ kept_rules (tag_rules s tag) (closed_as s tag ms))

pub tag_refused : (s : Scope) (tag : CTag) (d : TypeFault) → members (inner s tag) [] tag.members ≡ Err d → Some d ≡ result_err (tag_declared s tag)
tag_refused s tag d e = sym (ap (λ (p : Judged (List (List ℕ × CType))). result_err (declared_by s tag p)) e)

by_rules : (s r : Scope) (o : Option TypeFault) → scope_or s (option_map_or (λ e. Err e) o (Ok r)) ≡ (if is_some o then s else r)
by_rules s r None = refl
by_rules s r (Some e) = refl

set_twice : {X : Type 0} (xs : List X) (n : ℕ) (x y : X) → set (set xs n x) n y ≡ set xs n y
set_twice [] n x y = refl
set_twice (z ∷ xs) zero x y = refl
set_twice (z ∷ xs) (suc n) x y = ap (λ l. z ∷ l) (set_twice xs n x y)

-- the members of a tag have begun
pub tag_open : (table : Table) (d e : Declarations) (s : Scope) (n : ℕ) (tag : CTag) → slice_get table.tags n ≡ Some tag.name → n < length d.layouts.items
    → e.layouts.items ≡ set d.layouts.items n layout.Unfinished → e.names ≡ d.names → e.defined ≡ d.defined → Holds table d s → Holds table e (inner s tag)
tag_open table d e s n tag at within layouts names defined h = tag_changed table d e s n tag.name layout.Unfinished types.Unfinished at within layouts names defined refl tt h

-- a tag is declared, or what was known of it is put back
pub tag_settled : (t0 t1 : Table) (d e : Declarations) (s : Scope) (n : ℕ) (tag : CTag) (before closed : Layout) (r : Option TypeFault) (ms : List (List ℕ × CType))
    → Grows (known t0) (known t1) → t1.tags ≡ t0.tags → Holds t0 d s → slice_get t0.tags n ≡ Some tag.name → slice_get d.layouts.items n ≡ Some before
    → e.layouts.items ≡ set (set d.layouts.items n layout.Unfinished) n (if is_some r then before else closed) → e.names ≡ d.names → e.defined ≡ d.defined
    → members (inner s tag) [] tag.members ≡ Ok ms → IsClosed (known t1) (inner s tag).tags closed ms → r ≡ broken (tag_rules s tag)
    → Holds t1 e (scope_or s (tag_declared s tag))
tag_settled t0 t1 d e s n tag before closed r ms grows same holds at was layouts names defined typed is told =
    let h = holds_kept t0 t1 d s grows same holds in
    let at_new : slice_get t1.tags n ≡ Some tag.name = ap (λ (l : List (List ℕ)). slice_get l n) same ∙ at in
    let within : n < length d.layouts.items = slice_get_within d.layouts.items n before was in
    let scope : scope_or s (tag_declared s tag) ≡ (if is_some r then s else closed_as s tag ms) =
    ap (λ (p : Judged (List (List ℕ × CType))). scope_or s (declared_by s tag p)) typed
    ∙ (by_rules s (closed_as s tag ms) (broken (tag_rules s tag)) ∙ ap (λ (o : Option TypeFault). if is_some o then s else closed_as s tag ms) (sym told)) in
    subst (Holds t1 e) (sym scope) (by (is_some r) layouts h at_new within)
  where
    by : (b : Bool) → e.layouts.items ≡ set (set d.layouts.items n layout.Unfinished) n (if b then before else closed) → Holds t1 d s → slice_get t1.tags n ≡ Some tag.name → n < length d.layouts.items
        → Holds t1 e (if b then s else closed_as s tag ms)
    by true at_end h at_new within = layouts_back t1 d e s (at_end ∙ set_back d.layouts.items n layout.Unfinished before was) names defined h
    by false at_end h at_new within =
        tag_changed t1 d e s n tag.name closed (types.Members ms (words_of_members (inner s tag).tags ms)) at_new within (at_end ∙ set_twice d.layouts.items n layout.Unfinished closed) names defined is.is is.listed h

pub tag_back : (t0 t1 : Table) (d e : Declarations) (s : Scope) (n : ℕ) (tag : CTag) (before : Layout) (f : TypeFault) → Grows (known t0) (known t1) → t1.tags ≡ t0.tags → Holds t0 d s
    → slice_get d.layouts.items n ≡ Some before → e.layouts.items ≡ set (set d.layouts.items n layout.Unfinished) n before → e.names ≡ d.names → e.defined ≡ d.defined
    → members (inner s tag) [] tag.members ≡ Err f → Holds t1 e (scope_or s (tag_declared s tag))
tag_back t0 t1 d e s n tag before f grows same holds was layouts names defined refused =
    let h = holds_kept t0 t1 d s grows same holds in
    let scope : scope_or s (tag_declared s tag) ≡ s = ap (λ (p : Judged (List (List ℕ × CType))). scope_or s (declared_by s tag p)) refused in
    subst (Holds t1 e) (sym scope) (layouts_back t1 d e s (layouts ∙ set_back d.layouts.items n layout.Unfinished before was) names defined h)

set_length : {X : Type 0} (xs : List X) (n : ℕ) (x : X) → length (set xs n x) ≡ length xs
set_length [] n x = refl
set_length (y ∷ xs) zero x = refl
set_length (y ∷ xs) (suc n) x = ap suc (set_length xs n x)

pub within_set : {X : Type 0} (xs ys : List X) (n : ℕ) (x : X) → ys ≡ set xs n x → n < length xs → n < length ys
within_set xs ys n x e h = subst (λ (k : ℕ). n < k) (sym (ap length e ∙ set_length xs n x)) h

-- a tag that has a number has a layout
pub tag_within : (table : Table) (d : Declarations) (s : Scope) (n : ℕ) (name : List ℕ) → Holds table d s → slice_get table.tags n ≡ Some name → n < length d.layouts.items
tag_within table d s n name h at = by (slice_get d.layouts.items n) refl (h.fits.layouts n name at) where
  by : (l : Option Layout) → slice_get d.layouts.items n ≡ l → LayoutIsThere (known table) l (meaning s.tags name) → n < length d.layouts.items
  by (Some l) e k = slice_get_within d.layouts.items n l e
  by None e k = absurd k
