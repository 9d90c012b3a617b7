-- Blocks that begin and end, with their names, the numbers of their objects, and their places.
use Rattle.std.specs.Prelude.{◌≡◌, [], ◌++◌, length, take}
use Rattle.c_declared.specs.Held.{IsAround}
use Rattle.c_addressing.specs.declared.here.Here.{Here}
use Rattle.c_lower_blocks.specs.declared.blocks.Marks.{Marks}

-- a block more, whatever it declares and wherever its objects lie
pub record IsInside (h e : Here) : Type 0 where
  pub names : e.declared.names.outer ≡ h.declared.names.block ++ h.declared.names.outer
  pub slots : e.slots.outer ≡ h.slots.block ++ h.slots.outer
  pub layouts : e.declared.layouts ≡ h.declared.layouts
  pub defined : e.declared.defined ≡ h.declared.defined
  pub bases : take (length h.bases.items) e.bases.items ≡ h.bases.items
  pub entries : e.entries.entries ≡ h.entries.entries

-- what stood around the block around it, and the places before it
pub record AreMarks (h : Here) (m : Marks) : Type 0 where
  pub names : m.names ≡ length h.declared.names.outer
  pub slots : m.slots ≡ length h.slots.outer
  pub bases : m.bases ≡ length h.bases.items

-- a block began, and has no names and no places yet
pub record IsEntered (h e : Here) (m : Marks) : Type 0 where
  pub names : e.declared.names.block ≡ []
  pub slots : e.slots.block ≡ []
  pub bases : e.bases.items ≡ h.bases.items
  pub inside : IsInside h e
  pub marks : AreMarks h m

-- only the names of the innermost block changed
pub record IsBeside (h e : Here) : Type 0 where
  pub declared : IsAround h.declared e.declared
  pub slots : e.slots.outer ≡ h.slots.outer
  pub bases : e.bases.items ≡ h.bases.items
  pub entries : e.entries.entries ≡ h.entries.entries

-- the same is declared
pub record IsSame (h e : Here) : Type 0 where
  pub names : e.declared.names.block ≡ h.declared.names.block
  pub slots : e.slots.block ≡ h.slots.block
  pub beside : IsBeside h e

-- the innermost block has no names, and all else is the same
pub record IsAnew (h e : Here) : Type 0 where
  pub names : e.declared.names.block ≡ []
  pub declared : IsAround h.declared e.declared
  pub slots : e.slots ≡ h.slots
  pub bases : e.bases.items ≡ h.bases.items
  pub entries : e.entries.entries ≡ h.entries.entries
