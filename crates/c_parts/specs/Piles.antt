-- The values and slots of the function that runs, above those of its callers.
use Rattle.std.specs.Prelude.{ℕ, ◌++◌, List, Some, None, slice_get, map, take, drop, reverse}
use Rattle.c_store.specs.declared.value.Value as rust
use Rattle.c_store.specs.declared.kind.Kind.{Kind}
use Rattle.c_store.specs.declared.kind.Kind.TheVariants.{Number}
use Rattle.c_store.specs.Shown.{value_of}
use Rattle.c_plain.specs.Machine.{Piled}
use Rattle.c_plain.specs.Calls.{pointers_from}

-- values, the last one first
abbrev pub values_of : ℕ → List rust.Value → Piled
values_of base items = record { mine = reverse (map value_of (drop base items)); below = reverse (map value_of (take base items)) }

-- slots, the first one first
abbrev pub slots_of : ℕ → List rust.Value → Piled
slots_of base items = record { mine = map value_of (drop base items); below = map value_of (take base items) }

-- with more slots, for objects of these lengths
abbrev pub with_objects : Piled → ℕ → List ℕ → Piled
with_objects p number lengths = record p { mine = p.mine ++ pointers_from number lengths }

-- the kind to which an argument converts; one without a kind stays
abbrev pub kind_at : List Kind → ℕ → Kind
kind_at kinds n = elim (slice_get kinds n) [ None ↦ Number | Some kind ↦ kind ]
