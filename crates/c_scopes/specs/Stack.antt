-- The declarations in scope, and the map that finds them.
use Rattle.std.specs.Prelude.{◌≡◌, ℕ, List, [], ◌∷◌, ◌++◌, Option, Some, None, length, map, reverse, if◌then◌else◌}
use Rattle.std.specs.Map.{lookup}
use Rattle.std.specs.Str.{bytes_eq}
use denote.Ref.{Bor}
use Rattle.c_scopes.specs.declared.entity.Entity.{Entity}
use Rattle.c_scopes.specs.declared.stack.Place.{Place}
use Rattle.c_scopes.specs.declared.stack.Declared.{Declared}

abbrev pub pair_of : Declared → List ℕ × Entity
pair_of d = (d.name.now, d.entity)

-- names and what they stand for, the last one first
abbrev pub pairs : List Declared → List (List ℕ × Entity)
pairs ds = map pair_of (reverse ds)

-- what a name stands for, and how many declarations are before its own
abbrev pub placed : List (List ℕ × Entity) → List ℕ → Option Place
placed [] name = None
placed (p ∷ ps) name = if bytes_eq name p.0 then Some (record { entity = p.1; index = length ps }) else placed ps name

abbrev pub flat : Option (Option Place) → Option Place
flat (Some place) = place
flat None = None

-- what a map has at a name
abbrev pub looked : List (Bor (List ℕ) × Option Place) → List ℕ → Option Place
looked entries name = flat (lookup (λ k. bytes_eq name k.now) entries)

-- each declaration knows what its name stood for before; the last one first
abbrev pub AreHidden : List Declared → Type 0
AreHidden [] = Unit {0}
AreHidden (d ∷ ds) = (d.hidden ≡ placed (map pair_of ds) d.name.now) × AreHidden ds

-- the map finds each name, and the declarations know what they hide
pub record Stands (ds : List Declared) (entries : List (Bor (List ℕ) × Option Place)) : Type 0 where
  pub finds : (name : List ℕ) → looked entries name ≡ placed (pairs ds) name
  pub hidden : AreHidden (reverse ds)

-- one declaration more, of this name for this
pub record IsPushed (old new : List Declared) (p : List ℕ × Entity) : Type 0 where
  pub last : Declared
  pub behind : new ≡ old ++ last ∷ []
  pub says : pair_of last ≡ p
