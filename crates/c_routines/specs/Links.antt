-- What the parts of linking make.
use Rattle.std.specs.Prelude.{ℕ, List, [], ◌∷◌, nat_eq, if◌then◌else◌}
use Rattle.std.specs.Option.{unwrap_or}
use Rattle.std.specs.Ordering.{nat_cmp}
use Rattle.std.specs.BTreeMap.{BTreeMap, get}
use Rattle.eir_core.specs.declared.ops.Op.{Op}
use Rattle.c_routines.specs.declared.item.Item.{Item}
use Rattle.c_routines.specs.declared.item.Item.TheVariants.{Label}
use Rattle.c_routines.specs.Items.{op_at}

-- the block of a label, and another number where none is known
abbrev pub place_or : BTreeMap ℕ ℕ → (name other : ℕ) → ℕ
place_or places name other = unwrap_or (get nat_cmp places name) other

abbrev pub place_of : BTreeMap ℕ ℕ → ℕ → ℕ
place_of places name = place_or places name 0

-- the block of a label that begins there, and the same number of another one
abbrev pub with_label : (label block name other : ℕ) → ℕ
with_label label block name other = if nat_eq label name then block else other

-- an item's operation, if it has one
abbrev pub ops_of : (ℕ → ℕ) → Item → List Op
ops_of at (Label l) = []
ops_of at item = op_at at item ∷ []
