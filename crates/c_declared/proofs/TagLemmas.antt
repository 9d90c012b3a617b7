-- Tags whose members are declared.
use Rattle.std.proofs.Common.{◌≡◌, ◌≢◌, ℕ, zero, suc, ◌<◌, Bool, true, false, List, [], ◌∷◌, length, set, Option, Some, None, refl, sym, ap, subst, ◌∙◌, if◌then◌else◌, arith}
use Rattle.std.specs.Prelude.{slice_get}
use Rattle.std.specs.Str.{bytes_eq}
use Rattle.std.specs.Cmp.Lexicographic.{bytes_decides}
use Rattle.std.proofs.lemmas.Option.{slice_get_within}
use Rattle.c_syntax.specs.Words.{meaning}
use Rattle.c_types.specs.Types as types
use Rattle.c_types.specs.Types.{Tags}
use Rattle.c_types.specs.Scope.{Scope, contains}
use Rattle.c_types.specs.Declarations.{with_tag}
use Rattle.c_types.specs.Table.{Table, known, texts}
use Rattle.c_layouts.specs.declared.layout.Layout.{Layout}
use Rattle.c_layouts.specs.Layouts.{LayoutIs, LayoutIsThere, LayoutAt, AreLayouts}
use Rattle.c_operands.specs.declared.declarations.Declarations.{Declarations}
use Rattle.c_scopes.specs.Blocks.{Blocks}
use Rattle.c_operands.specs.Scoped.{Fits, AreNumbered, AreNames}
use Rattle.c_declared.specs.Slots.{IsListed, AreOrdered}
use Rattle.c_declared.specs.Held.{AreDistinct, Holds}

pub get_set_same : {X : Type 0} (xs : List X) (n : ℕ) (x : X) → n < length xs → slice_get (set xs n x) n ≡ Some x
get_set_same [] n x h = absurd (omega arith)
get_set_same (y ∷ xs) zero x h = refl
get_set_same (y ∷ xs) (suc n) x h = get_set_same xs n x (omega arith)

pub get_set_other : {X : Type 0} (xs : List X) (n m : ℕ) (x : X) → (m ≡ n → ⊥) → slice_get (set xs n x) m ≡ slice_get xs m
get_set_other [] n m x h = refl
get_set_other (y ∷ xs) zero zero x h = absurd (h refl)
get_set_other (y ∷ xs) zero (suc m) x h = refl
get_set_other (y ∷ xs) (suc n) zero x h = refl
get_set_other (y ∷ xs) (suc n) (suc m) x h = get_set_other xs n m x (λ e. h (ap suc e))

-- put back
pub set_back : {X : Type 0} (xs : List X) (n : ℕ) (x y : X) → slice_get xs n ≡ Some y → set (set xs n x) n y ≡ xs
set_back [] n x y h = absurd cc
set_back (z ∷ xs) zero x y h = let same : z ≡ y = cc in ap (λ k. k ∷ xs) (sym same)
set_back (z ∷ xs) (suc n) x y h = ap (λ k. z ∷ k) (set_back xs n x y h)

false_true : false ≡ true → ⊥
false_true k = absurd cc

some_name : (m n : List ℕ) → Some m ≡ Some n → m ≡ n
some_name m n e = cc

module _ (table : Table) (layouts : List Layout) (tags : Tags) (n : ℕ) (name : List ℕ) (l : Layout) (o : types.Layout) (at : slice_get table.tags n ≡ Some name) (apart : AreDistinct table.tags) (within : n < length layouts) where
  abbrev more : Tags
  more = (name, o) ∷ tags

  -- a fact of each tag's layout and meaning holds behind the change, if it holds of the new ones
  each_tag : (P : Option Layout → Option types.Layout → Type 0) → P (Some l) (Some o) → ((m : ℕ) (tag : List ℕ) → slice_get table.tags m ≡ Some tag → P (slice_get layouts m) (meaning tags tag))
      → (m : ℕ) (tag : List ℕ) → slice_get table.tags m ≡ Some tag → P (slice_get (set layouts n l) m) (meaning more tag)
  each_tag P new old m tag h = by (bytes_eq tag name) refl where
    by : (b : Bool) → bytes_eq tag name ≡ b → P (slice_get (set layouts n l) m) (if b then Some o else meaning tags tag)
    by true e =
        let same : tag ≡ name = (bytes_decides tag name).0 e in
        let place : m ≡ n = apart m n name (h ∙ ap Some same) at in
        subst (λ (k : Option Layout). P k (Some o)) (sym (ap (slice_get (set layouts n l)) place ∙ get_set_same layouts n l within)) new
    by false e =
        let other : m ≡ n → ⊥ = λ place. false_true (sym e ∙ (bytes_decides tag name).1 (some_name tag name (sym h ∙ (ap (slice_get table.tags) place ∙ at)))) in
        subst (λ (k : Option Layout). P k (meaning tags tag)) (sym (get_set_other layouts n m l other)) (old m tag h)

numbered_more : (table : Table) (tags : Tags) (n : ℕ) (name : List ℕ) (o : types.Layout) → slice_get table.tags n ≡ Some name → AreNumbered table tags → AreNumbered table ((name, o) ∷ tags)
numbered_more table tags n name o at h = λ other l. by other l (bytes_eq other name) refl where
  by : (other : List ℕ) (l : types.Layout) (b : Bool) → bytes_eq other name ≡ b → (if b then Some o else meaning tags other) ≡ Some l → (k : ℕ) × (slice_get table.tags k ≡ Some other)
  by other l true e is = (n, at ∙ ap (λ (k : List ℕ). Some k) (sym ((bytes_decides other name).0 e)))
  by other l false e is = h other l is

-- a tag has another layout from now on
pub tag_changed : (table : Table) (d e : Declarations) (s : Scope) (n : ℕ) (name : List ℕ) (l : Layout) (o : types.Layout) → slice_get table.tags n ≡ Some name → n < length d.layouts.items
    → e.layouts.items ≡ set d.layouts.items n l → e.names ≡ d.names → e.defined ≡ d.defined → LayoutIs (known table) l (Some o) → IsListed (known table) (Some l) (Some o)
    → Holds table d s → Holds table e (with_tag s name o)
tag_changed table d e s n name l o at within layouts names defined is listed h =
    let all : AreLayouts table (set d.layouts.items n l) ((name, o) ∷ s.tags) =
    each_tag table d.layouts.items s.tags n name l o at h.distinct within (λ k m. LayoutIsThere (known table) k m) is h.fits.layouts in
    let order : AreOrdered table (set d.layouts.items n l) ((name, o) ∷ s.tags) =
    each_tag table d.layouts.items s.tags n name l o at h.distinct within (λ k m. IsListed (known table) k m) listed h.ordered in
    record {
      fits = record {
        layouts = subst (λ (k : List Layout). AreLayouts table k ((name, o) ∷ s.tags)) (sym layouts) all;
        numbered = numbered_more table s.tags n name o at h.fits.numbered;
        block = subst (λ (k : Blocks). AreNames table k.block s.block) (sym names) h.fits.block;
        outer = subst (λ (k : Blocks). AreNames table k.outer s.outer) (sym names) h.fits.outer;
        defined = λ other. ap (λ v. contains (texts v.keys) other) defined ∙ h.fits.defined other;
      };
      ordered = subst (λ (k : List Layout). AreOrdered table k ((name, o) ∷ s.tags)) (sym layouts) order;
      distinct = h.distinct;
    }

-- the layouts are what they were
pub layouts_back : (table : Table) (d e : Declarations) (s : Scope) → e.layouts.items ≡ d.layouts.items → e.names ≡ d.names → e.defined ≡ d.defined → Holds table d s → Holds table e s
layouts_back table d e s layouts names defined h = record {
  fits = record {
    layouts = subst (λ (k : List Layout). AreLayouts table k s.tags) (sym layouts) h.fits.layouts;
    numbered = h.fits.numbered;
    block = subst (λ (k : Blocks). AreNames table k.block s.block) (sym names) h.fits.block;
    outer = subst (λ (k : Blocks). AreNames table k.outer s.outer) (sym names) h.fits.outer;
    defined = λ other. ap (λ v. contains (texts v.keys) other) defined ∙ h.fits.defined other;
  };
  ordered = subst (λ (k : List Layout). AreOrdered table k s.tags) (sym layouts) h.ordered;
  distinct = h.distinct;
}
