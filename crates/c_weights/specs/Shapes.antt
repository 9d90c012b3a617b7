-- Types by the parts in which a type may be too wide.
use Rattle.std.specs.Prelude.{ℕ}
use Rattle.c_types.specs.declared.shape.Shape.{Shape}
use Rattle.c_types.specs.declared.shape.Shape.TheVariants as shape
use Rattle.c_weights.specs.declared.wide.Parts.{Parts}
use Rattle.c_weights.specs.declared.wide.Parts.TheVariants as parts

-- the types that a type is made of
abbrev pub parts_in : Shape → Parts
parts_in (shape.Pointer t) = parts.Pointer t
parts_in (shape.Array t n) = parts.Array t
parts_in (shape.Function t ts) = parts.Both t ts
parts_in (shape.MoreType t ts) = parts.Both t ts
parts_in shape.NoType = parts.Empty
parts_in _ = parts.Whole
