-- Scopes that see the same names, whatever block declared them.
use Rattle.std.specs.Prelude.{◌≡◌, ℕ, false, List}
use Rattle.c_types.specs.Scope.{Scope, is_declared_here}
use Rattle.c_alike.specs.Alike.{NameIsAlike}

-- each name stands for the same, and what isn't declared in the innermost block of the first isn't in that of the second
pub record SeesAll (s z : Scope) : Type 0 where
  pub tags : s.tags ≡ z.tags
  pub names : (name : List ℕ) → NameIsAlike s z name
  pub here : (name : List ℕ) → is_declared_here s name ≡ false → is_declared_here z name ≡ false
