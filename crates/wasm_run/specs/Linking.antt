-- A module with the places where its blocks go on.
use Rattle.std.specs.Prelude.{ℕ, List, [], Option, None, Some, slice_get, Vec}
use Rattle.std.specs.declared.alloc.Global.{Global}
use Rattle.wasm_bin.specs.declared.module.Module.{Module}
use Rattle.wasm_parts.specs.declared.jumps.Jump.{Jump}
use Rattle.wasm_rule.specs.Code.{own_code}
use Rattle.wasm_parts.specs.Jumps.{IsTable}

abbrev pub table_in : Option (Vec Jump Global) → List Jump
table_in None = []
table_in (Some table) = table.items

-- the table of an own function
abbrev pub table_at : List (Vec Jump Global) → ℕ → List Jump
table_at tables own = table_in (slice_get tables own)

-- each own function has its table
abbrev pub AreTables : Module → List (Vec Jump Global) → Type 0
AreTables m tables = (own : ℕ) → IsTable (own_code m own) (table_at tables own)
