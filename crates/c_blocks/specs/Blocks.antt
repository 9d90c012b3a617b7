-- Blocks that begin and end, with their names and slots.
use Rattle.std.specs.Prelude.{◌≡◌, [], ◌++◌, length}
use Rattle.c_declared.specs.Held.{IsAround}
use Rattle.c_here.specs.declared.here.Here.{Here}
use Rattle.c_blocks.specs.declared.blocks.Marks.{Marks}

-- a block more, whatever it declares
pub record IsInside (h e : Here) : Type 0 where
  pub names : e.declared.names.outer ≡ h.declared.names.block ++ h.declared.names.outer
  pub slots : e.slots.outer ≡ h.slots.block ++ h.slots.outer
  pub layouts : e.declared.layouts ≡ h.declared.layouts
  pub defined : e.declared.defined ≡ h.declared.defined

-- what stood around the block around it
pub record AreMarks (h : Here) (m : Marks) : Type 0 where
  pub names : m.names ≡ length h.declared.names.outer
  pub slots : m.slots ≡ length h.slots.outer

-- a block began, and has no names yet
pub record IsEntered (h e : Here) (m : Marks) : Type 0 where
  pub names : e.declared.names.block ≡ []
  pub slots : e.slots.block ≡ []
  pub inside : IsInside h e
  pub marks : AreMarks h m

-- only the names of the innermost block changed
pub record IsBeside (h e : Here) : Type 0 where
  pub declared : IsAround h.declared e.declared
  pub slots : e.slots.outer ≡ h.slots.outer

-- the same is declared
pub record IsSame (h e : Here) : Type 0 where
  pub names : e.declared.names.block ≡ h.declared.names.block
  pub slots : e.slots.block ≡ h.slots.block
  pub beside : IsBeside h e
