-- What is declared, as the definitions have it.
use Rattle.std.specs.Prelude.{◌≡◌, ℕ, List, [], ◌∷◌, Option, Some, None, slice_get}
use Rattle.c_syntax.specs.Words.{meaning}
use Rattle.c_types.specs.Types.{Layout, Tags}
use Rattle.c_types.specs.Scope as scope
use Rattle.c_types.specs.Scope.{Scope, contains}
use Rattle.c_types.specs.Table.{Table, HasType, texts}
use Rattle.c_layouts.specs.Layouts.{AreLayouts}
use Rattle.c_scopes.specs.declared.entity.Entity.{Entity}
use Rattle.c_scopes.specs.declared.entity.Entity.TheVariants.{Object, Routine, BuiltIn, Printf}
use Rattle.c_operands.specs.declared.declarations.Declarations.{Declarations}

-- a name stands for what it stands for in the definitions
abbrev pub IsEntity : Table → Entity → scope.Entity → Type 0
IsEntity table (Object n) (scope.Object t) = HasType table n t
IsEntity table (Routine n begun) (scope.Routine t started) = HasType table n t × (begun ≡ started)
IsEntity table (BuiltIn n) (scope.BuiltIn t) = HasType table n t
IsEntity table Printf scope.Printf = Unit {0}
IsEntity table _ _ = ⊥

abbrev pub IsEntityOrNone : Table → Option Entity → Option scope.Entity → Type 0
IsEntityOrNone table (Some a) (Some b) = IsEntity table a b
IsEntityOrNone table None None = Unit {0}
IsEntityOrNone table _ _ = ⊥

-- names, one by one
abbrev pub AreNames : Table → List (List ℕ × Entity) → scope.Names → Type 0
AreNames table [] [] = Unit {0}
AreNames table (a ∷ names) (b ∷ others) = (a.0 ≡ b.0) × IsEntity table a.1 b.1 × AreNames table names others
AreNames table _ _ = ⊥

-- each tag that is declared has a number
abbrev pub AreNumbered : Table → Tags → Type 0
AreNumbered table tags = (name : List ℕ) (layout : Layout) → meaning tags name ≡ Some layout → (n : ℕ) × (slice_get table.tags n ≡ Some name)

-- what is declared is what a scope of the definitions has
pub record Fits (table : Table) (d : Declarations) (s : Scope) : Type 0 where
  pub layouts : AreLayouts table d.layouts.items s.tags
  pub numbered : AreNumbered table s.tags
  pub block : AreNames table d.names.block s.block
  pub outer : AreNames table d.names.outer s.outer
  pub defined : (name : List ℕ) → contains (texts d.defined.keys) name ≡ contains s.defined name

-- there is such a scope
abbrev pub FitsSome : Table → Declarations → Type 0
FitsSome table d = (s : Scope) × Fits table d s
