-- Blocks that begin and end, with their names.
use Rattle.std.specs.Prelude.{◌≡◌, ℕ, List, ◌∷◌, ◌++◌}
use Rattle.c_scopes.specs.declared.entity.Entity.{Entity}
use Rattle.c_operands.specs.declared.declarations.Declarations.{Declarations}

-- a block more, whatever it declares
pub record IsInside (d e : Declarations) : Type 0 where
  pub outer : e.names.outer ≡ d.names.block ++ d.names.outer
  pub layouts : e.layouts ≡ d.layouts
  pub defined : e.defined ≡ d.defined

-- the block of a function's body, whose name is declared before it, whatever it declares
pub record IsInBody (d e : Declarations) : Type 0 where
  pub name : List ℕ
  pub entity : Entity
  pub outer : e.names.outer ≡ (name, entity) ∷ (d.names.block ++ d.names.outer)
  pub layouts : e.layouts ≡ d.layouts
  pub defined : e.defined ≡ d.defined

-- the same is declared
pub record IsSame (d e : Declarations) : Type 0 where
  pub block : e.names.block ≡ d.names.block
  pub outer : e.names.outer ≡ d.names.outer
  pub layouts : e.layouts ≡ d.layouts
  pub defined : e.defined ≡ d.defined
