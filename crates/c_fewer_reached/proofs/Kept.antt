-- The functions that a text defines where some are kept.
use Rattle.std.proofs.Common.{◌≡◌, ℕ, List, [], ◌∷◌, Some, None, Bool, true, false, refl, sym, ap, ◌∙◌}
use Rattle.std.specs.Prelude.{◌||◌, map, if◌then◌else◌}
use Rattle.std.specs.Str.{bytes_eq}
use Rattle.std.proofs.lemmas.Slice.Eq.{bytes_eq-Decides}
use Rattle.c_syntax.specs.Plain as plain
use Rattle.c_syntax.specs.Plain.{CTy, CDecl, CStmt, CItem}
use Rattle.c_types.specs.Scope.{contains}
use Rattle.c_types.specs.Units.{defined_in}
use Rattle.c_helpers.specs.Simple.{kept}
use Rattle.c_fewer_reached.specs.Laws.{KeptAreDefined, DefinedAreKept}

or_true : (a b : Bool) → b ≡ true → (a || b) ≡ true
or_true true b e = refl
or_true false b e = e

module _ (names : List (List ℕ)) where
  abbrev after : List CItem → List (List ℕ)
  after items = defined_in (map (kept names) items)

  -- a function with a body stands first
  first_kept : (name : List ℕ) (at : ℕ) (result : CTy) (params : List CDecl) (body : CStmt) (items : List CItem) (f : List ℕ) → contains names f ≡ true → (b : Bool) → bytes_eq f name ≡ b → (b || contains (defined_in items) f) ≡ true → (contains (defined_in items) f ≡ true → contains (after items) f ≡ true)
      → (c : Bool) → contains names name ≡ c → contains (defined_in (plain.Function name at result params (if c then Some body else None) ∷ map (kept names) items)) f ≡ true
  first_kept name at result params body items f k true e d more true g = ap (λ b. b || contains (after items) f) e
  first_kept name at result params body items f k true e d more false g = absurd (cc (sym g ∙ (ap (λ z. contains names z) (sym ((bytes_eq-Decides f name).0 e)) ∙ k)))
  first_kept name at result params body items f k false e d more true g = or_true (bytes_eq f name) (contains (after items) f) (more d)
  first_kept name at result params body items f k false e d more false g = more d

  defined : (items : List CItem) (f : List ℕ) → contains names f ≡ true → contains (defined_in items) f ≡ true → contains (after items) f ≡ true
  defined [] f k d = d
  defined (plain.StructItem tag ∷ items) f k d = defined items f k d
  defined (plain.Object x ∷ items) f k d = defined items f k d
  defined (plain.Function name at result params None ∷ items) f k d = go (contains names name) (defined items f k d)
    where
      go : (c : Bool) → contains (after items) f ≡ true → contains (defined_in (plain.Function name at result params (if c then None else None) ∷ map (kept names) items)) f ≡ true
      go true rest = rest
      go false rest = rest
  defined (plain.Function name at result params (Some body) ∷ items) f k d = first_kept name at result params body items f k (bytes_eq f name) refl d (λ d. defined items f k d) (contains names name) refl

  abbrev Both : List CItem → List ℕ → Type 0
  Both items f = (contains names f ≡ true) × (contains (defined_in items) f ≡ true)

  first_only : (name : List ℕ) (at : ℕ) (result : CTy) (params : List CDecl) (body : CStmt) (items : List CItem) (f : List ℕ) → (contains (after items) f ≡ true → Both items f) → (c : Bool) → contains names name ≡ c
      → contains (defined_in (plain.Function name at result params (if c then Some body else None) ∷ map (kept names) items)) f ≡ true → Both (plain.Function name at result params (Some body) ∷ items) f
  first_only name at result params body items f more true g d = go (bytes_eq f name) refl d
    where
      go : (b : Bool) → bytes_eq f name ≡ b → (b || contains (after items) f) ≡ true → Both (plain.Function name at result params (Some body) ∷ items) f
      go true e d = (ap (λ z. contains names z) ((bytes_eq-Decides f name).0 e) ∙ g, ap (λ b. b || contains (defined_in items) f) e)
      go false e d = let m = more d in (m.0, or_true (bytes_eq f name) (contains (defined_in items) f) m.1)
  first_only name at result params body items f more false g d = let m = more d in (m.0, or_true (bytes_eq f name) (contains (defined_in items) f) m.1)

  only : (items : List CItem) (f : List ℕ) → contains (after items) f ≡ true → Both items f
  only [] f d = absurd (cc d)
  only (plain.StructItem tag ∷ items) f d = only items f d
  only (plain.Object x ∷ items) f d = only items f d
  only (plain.Function name at result params None ∷ items) f d = go (contains names name) d (λ d. only items f d)
    where
      go : (c : Bool) → contains (defined_in (plain.Function name at result params (if c then None else None) ∷ map (kept names) items)) f ≡ true → (contains (after items) f ≡ true → Both items f) → Both items f
      go true d more = more d
      go false d more = more d
  only (plain.Function name at result params (Some body) ∷ items) f d = first_only name at result params body items f (λ d. only items f d) (contains names name) refl d

pub kept_are_defined : KeptAreDefined
kept_are_defined names items f k d = defined names items f k d

pub defined_are_kept : DefinedAreKept
defined_are_kept names items f d = only names items f d
