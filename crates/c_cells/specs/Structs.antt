-- The kinds of the cells of structs, as the definitions have them.
use Rattle.std.specs.Prelude.{◌≡◌, ℕ, nat_eq, List, [], map, Option, Some, None, slice_get, Vec}
use Rattle.std.specs.Map.{lookup}
use Rattle.std.specs.declared.alloc.Global.{Global}
use Rattle.c_types.specs.Types.{CType, Tags}
use Rattle.c_types.specs.Declarations as plain
use Rattle.c_types.specs.Table.{Table, known}
use Rattle.c_layouts.specs.declared.layout.Layout.{Layout}
use Rattle.c_declared.specs.declared.slots.Slots.{Slots}
use Rattle.c_declared.specs.Slots.{AreListed, AreSlots, entries_at}
use Rattle.c_store.specs.declared.kind.Kind.{Kind}
use Rattle.c_resolved.specs.Same.{kind_in}
use Rattle.c_eval.specs.Environment.{struct_kinds}
use Rattle.c_cells.specs.declared.structs.StructKinds.{StructKinds}

abbrev pub row_of : Option (Vec Kind Global) → List Kind
row_of (Some row) = row.items
row_of None = []

-- the kinds that stand at the number of a tag
abbrev pub row_at : StructKinds → ℕ → List Kind
row_at structs n = row_of (lookup (λ m. nat_eq n m) structs.rows.entries)

-- each tag has the kinds of its struct at its number
pub record AreStructKinds (table : Table) (structs : StructKinds) (tags : Tags) : Type 0 where
  pub found : (n : ℕ) (tag : List ℕ) → slice_get table.tags n ≡ Some tag → map kind_in (row_at structs n) ≡ struct_kinds tags tag

-- a tag with this number has these members in their order
pub record HasMembers (table : Table) (layouts : List Layout) (tag : ℕ) (members : List (List ℕ × CType)) : Type 0 where
  pub listed : AreListed (known table) (entries_at layouts tag) members

abbrev pub HasSomeMembers : Table → List Layout → ℕ → Type 0
HasSomeMembers table layouts tag = (members : List (List ℕ × CType)) × HasMembers table layouts tag members

-- the values of a braced list stand for some objects
abbrev pub AreSlotsOfSome : Table → List Layout → Slots → Type 0
AreSlotsOfSome table layouts slots = (s : plain.Slots) × AreSlots table layouts slots s
