-- A type with the tags that are declared.
use Rattle.std.specs.Prelude.{ℕ, List, Option, slice_get}
use Rattle.c_types.specs.Types as types
use Rattle.c_types.specs.Types.{CType, Tags}
use Rattle.c_types.specs.Table.{Table, known, HasType}
use Rattle.c_layouts.specs.declared.layout.Layout.{Layout}
use Rattle.c_layouts.specs.Layouts.{AreLayouts, LayoutAt}
use Rattle.c_declared.specs.Slots.{AreOrdered, IsListed}

-- a number is that of a type, and the members of the declared tags are known in their order
pub record IsTypeAmong (table : Table) (layouts : List Layout) (ty : ℕ) (t : CType) (tags : Tags) : Type 0 where
  pub is : HasType table ty t
  pub members : AreLayouts table layouts tags
  pub ordered : AreOrdered table layouts tags

-- a tag has these members or none, and they are known in their order
pub record IsTag (table : Table) (layouts : List Layout) (tag : ℕ) (o : Option types.Layout) (tags : Tags) : Type 0 where
  pub members : AreLayouts table layouts tags
  pub layout : LayoutAt (known table) layouts tag o
  pub listed : IsListed (known table) (slice_get layouts tag) o
