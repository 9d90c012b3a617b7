-- What is declared while the table of types grows, and while names come and go.
use Rattle.std.proofs.Common.{◌≡◌, ℕ, suc, ◌+◌, ◌<◌, Bool, true, false, List, [], ◌∷◌, ◌++◌, length, drop, Option, Some, None, refl, sym, ap, subst, ◌∙◌, if◌then◌else◌, arith, length-append}
use Rattle.std.specs.Prelude.{slice_get, is_some}
use Rattle.c_syntax.specs.Words.{meaning}
use Rattle.c_types.specs.Types as types
use Rattle.c_types.specs.Types.{CType, Tags}
use Rattle.c_types.specs.Scope as scope
use Rattle.c_types.specs.Scope.{Scope, with_name, entered, contains}
use Rattle.c_types.specs.Known.{Known, OneType, Grows}
use Rattle.c_types.specs.Table.{Table, known, texts}
use Rattle.c_layouts.specs.declared.layout.Layout.{Layout}
use Rattle.c_layouts.specs.declared.layout.Layout.TheVariants as layout
use Rattle.c_layouts.specs.Layouts.{AreLayouts}
use Rattle.c_scopes.specs.declared.entity.Entity.{Entity}
use Rattle.c_operands.specs.declared.declarations.Declarations.{Declarations}
use Rattle.c_operands.specs.Scoped.{IsEntity, AreNames, Fits}
use Rattle.c_operands.proofs.NameLemmas.{fits_kept, both_blocks}
use Rattle.c_declared.specs.Slots.{Entries, AreListed, IsListed, AreOrdered}
use Rattle.c_declared.specs.Held.{AreDistinct, Holds, HoldsSome, IsAround}

pub members_kept : (old new : List Known) (entries : Entries) (members : List (List ℕ × CType)) → Grows old new → AreListed old entries members → AreListed new entries members
members_kept old new [] [] grows h = h
members_kept old new (e ∷ entries) (m ∷ members) grows h = (h.0, grows e.1 (OneType m.1) h.1, members_kept old new entries members grows h.2)
members_kept old new [] (m ∷ members) grows h = absurd h
members_kept old new (e ∷ entries) [] grows h = absurd h

listed_kept : (old new : List Known) (l : Option Layout) (o : Option types.Layout) → Grows old new → IsListed old l o → IsListed new l o
listed_kept old new (Some (layout.Members map words)) (Some (types.Members members count)) grows h = members_kept old new map.entries members grows h
listed_kept old new (Some (layout.Members map words)) (Some types.Unfinished) grows h = tt
listed_kept old new (Some (layout.Members map words)) None grows h = tt
listed_kept old new (Some layout.Unfinished) o grows h = tt
listed_kept old new (Some layout.Undeclared) o grows h = tt
listed_kept old new None o grows h = tt

pub holds_kept : (old new : Table) (d : Declarations) (s : Scope) → Grows (known old) (known new) → new.tags ≡ old.tags → Holds old d s → Holds new d s
holds_kept old new d s grows same h = record {
  fits = fits_kept old new d s grows same h.fits;
  ordered = λ n tag at.
      listed_kept (known old) (known new) (slice_get d.layouts.items n) (meaning s.tags tag) grows
      (h.ordered n tag (subst (λ (names : List (List ℕ)). slice_get names n ≡ Some tag) same at));
  distinct = subst AreDistinct (sym same) h.distinct;
}

pub held_kept : (old new : Table) (d : Declarations) → Grows (known old) (known new) → new.tags ≡ old.tags → HoldsSome old d → HoldsSome new d
held_kept old new d grows same h = (h.0, holds_kept old new d h.0 grows same h.1)

-- ---- names

-- the same with other names
with_names : (table : Table) (d e : Declarations) (s r : Scope) → e.layouts ≡ d.layouts → e.defined ≡ d.defined → r.tags ≡ s.tags → r.defined ≡ s.defined
    → AreNames table e.names.block r.block → AreNames table e.names.outer r.outer → Holds table d s → Holds table e r
with_names table d e s r layouts defined tags same block outer h =
    let all : AreLayouts table e.layouts.items r.tags = subst (λ (v : _). AreLayouts table v.items r.tags) (sym layouts) (subst (λ (g : Tags). AreLayouts table d.layouts.items g) (sym tags) h.fits.layouts) in
    let order : AreOrdered table e.layouts.items r.tags = subst (λ (v : _). AreOrdered table v.items r.tags) (sym layouts) (subst (λ (g : Tags). AreOrdered table d.layouts.items g) (sym tags) h.ordered) in
    record {
      fits = record {
        layouts = all;
        numbered = subst (λ (g : Tags). (name : List ℕ) (l : types.Layout) → meaning g name ≡ Some l → (n : ℕ) × (slice_get table.tags n ≡ Some name)) (sym tags) h.fits.numbered;
        block = block;
        outer = outer;
        defined = λ name.
            ap (λ v. contains (texts v.keys) name) defined ∙ (h.fits.defined name ∙ ap (λ (names : List (List ℕ)). contains names name) (sym same));
      };
      ordered = order;
      distinct = h.distinct;
    }

-- a name more
pub one_named : (table : Table) (d e : Declarations) (s : Scope) (name : List ℕ) (a : Entity) (b : scope.Entity) → IsAround d e → e.names.block ≡ (name, a) ∷ d.names.block
    → IsEntity table a b → Holds table d s → Holds table e (with_name s name b)
one_named table d e s name a b around block is h =
    with_names table d e s (with_name s name b) around.layouts around.defined refl refl
    (subst (λ (names : List (List ℕ × Entity)). AreNames table names ((name, b) ∷ s.block)) (sym block) (refl, is, h.fits.block))
    (subst (λ (names : List (List ℕ × Entity)). AreNames table names s.outer) (sym around.outer) h.fits.outer) h

first_off : (table : Table) (names : List (List ℕ × Entity)) (b : List ℕ × scope.Entity) (others : scope.Names) → AreNames table names (b ∷ others) → AreNames table (drop 1 names) others
first_off table (a ∷ names) b others h = h.2
first_off table [] b others h = absurd h

-- a name less
pub one_unnamed : (table : Table) (d e : Declarations) (s : Scope) (name : List ℕ) (b : scope.Entity) → IsAround d e → e.names.block ≡ drop 1 d.names.block → Holds table d (with_name s name b) → Holds table e s
one_unnamed table d e s name b around block h =
    with_names table d e (with_name s name b) s around.layouts around.defined refl refl
    (subst (λ (names : List (List ℕ × Entity)). AreNames table names s.block) (sym block) (first_off table d.names.block (name, b) s.block h.fits.block))
    (subst (λ (names : List (List ℕ × Entity)). AreNames table names s.outer) (sym around.outer) h.fits.outer) h

-- ---- blocks

-- a block begins
pub block_entered : (table : Table) (d e : Declarations) (s : Scope) → e.names.block ≡ [] → e.names.outer ≡ d.names.block ++ d.names.outer → e.layouts ≡ d.layouts → e.defined ≡ d.defined
    → Holds table d s → Holds table e (entered s)
block_entered table d e s block outer layouts defined h =
    with_names table d e s (entered s) layouts defined refl refl
    (subst (λ (names : List (List ℕ × Entity)). AreNames table names []) (sym block) tt)
    (subst (λ (names : List (List ℕ × Entity)). AreNames table names (s.block ++ s.outer)) (sym outer) (both_blocks table d.names.block d.names.outer s.block s.outer h.fits.block h.fits.outer)) h

joined_length : {X : Type 0} (xs ys : List X) → length (xs ++ ys) ≡ length xs + length ys
joined_length xs ys = length-append xs ys

abbrev first_or : {X : Type 0} → X → List X → X
first_or x [] = x
first_or x (y ∷ ys) = y

-- lists whose joins are the same, and whose ends are as long, are the same
pub front_same : {X : Type 0} (xs ys zs ws : List X) → xs ++ ys ≡ zs ++ ws → length ys ≡ length ws → (xs ≡ zs) × (ys ≡ ws)
front_same [] ys [] ws e h = (refl, e)
front_same [] ys (z ∷ zs) ws e h = let k = ap length e ∙ joined_length (z ∷ zs) ws in absurd (omega (arith, k, h))
front_same (x ∷ xs) ys [] ws e h = let k = sym (joined_length (x ∷ xs) ys) ∙ ap length e in absurd (omega (arith, k, h))
front_same (x ∷ xs) ys (z ∷ zs) ws e h =
    let rest = front_same xs ys zs ws (ap (drop 1) e) h in
    let same : x ≡ z = ap (first_or x) e in
    (ap (λ k. k ∷ xs) same ∙ ap (λ k. z ∷ k) rest.0, rest.1)

-- a block ends: the names are those of before, also where the table has grown
pub block_left : (old new : Table) (d e : Declarations) (s : Scope) → Grows (known old) (known new) → new.tags ≡ old.tags → e.names.block ++ e.names.outer ≡ d.names.block ++ d.names.outer
    → length e.names.outer ≡ length d.names.outer → e.layouts ≡ d.layouts → e.defined ≡ d.defined → Holds old d s → Holds new e s
block_left old new d e s grows same names count layouts defined before =
    let h = holds_kept old new d s grows same before in
    let parts = front_same e.names.block e.names.outer d.names.block d.names.outer names count in
    with_names new d e s s layouts defined refl refl
    (subst (λ (names : List (List ℕ × Entity)). AreNames new names s.block) (sym parts.0) h.fits.block)
    (subst (λ (names : List (List ℕ × Entity)). AreNames new names s.outer) (sym parts.1) h.fits.outer) h
