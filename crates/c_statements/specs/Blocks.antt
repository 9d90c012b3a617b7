-- Blocks that begin and end, with their names.
use Rattle.std.specs.Prelude.{◌≡◌, ◌++◌}
use Rattle.c_operands.specs.declared.declarations.Declarations.{Declarations}

-- a block more, whatever it declares
pub record IsInside (d e : Declarations) : Type 0 where
  pub outer : e.names.outer ≡ d.names.block ++ d.names.outer
  pub layouts : e.layouts ≡ d.layouts
  pub defined : e.defined ≡ d.defined

-- the same is declared
pub record IsSame (d e : Declarations) : Type 0 where
  pub block : e.names.block ≡ d.names.block
  pub outer : e.names.outer ≡ d.names.outer
  pub layouts : e.layouts ≡ d.layouts
  pub defined : e.defined ≡ d.defined
