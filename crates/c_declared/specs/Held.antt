-- What is declared, as the definitions have it, with the members of each tag in their order.
use Rattle.std.specs.Prelude.{◌≡◌, ℕ, List, Some, slice_get}
use Rattle.c_types.specs.Scope.{Scope}
use Rattle.c_types.specs.Table.{Table}
use Rattle.c_operands.specs.declared.declarations.Declarations.{Declarations}
use Rattle.c_operands.specs.Scoped.{Fits}
use Rattle.c_declared.specs.Slots.{AreOrdered}

-- no two tags have one name
abbrev pub AreDistinct : List (List ℕ) → Type 0
AreDistinct tags = (m n : ℕ) (name : List ℕ) → slice_get tags m ≡ Some name → slice_get tags n ≡ Some name → m ≡ n

-- what is declared is what a scope has, also the order of members
pub record Holds (table : Table) (d : Declarations) (s : Scope) : Type 0 where
  pub fits : Fits table d s
  pub ordered : AreOrdered table d.layouts.items s.tags
  pub distinct : AreDistinct table.tags

-- there is such a scope
abbrev pub HoldsSome : Table → Declarations → Type 0
HoldsSome table d = (s : Scope) × Holds table d s

-- only the names of the innermost block changed
pub record IsAround (d e : Declarations) : Type 0 where
  pub outer : e.names.outer ≡ d.names.outer
  pub layouts : e.layouts ≡ d.layouts
  pub defined : e.defined ≡ d.defined
