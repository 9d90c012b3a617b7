-- What functions say that know the kinds of structs.
use Rattle.std.specs.Prelude.{ℕ, ◌+◌, List, Result, IfOk}
use Rattle.std.specs.declared.alloc.AllocError.{AllocError}
use Rattle.eir_core.specs.declared.ops.Op.{Op}
use Rattle.c_types.specs.Scope.{Scope}
use Rattle.c_eval.specs.Environment.{Environment}
use Rattle.c_cells.specs.declared.structs.StructKinds.{StructKinds}
use Rattle.c_cells.specs.Structs.{AreStructKinds}
use Rattle.c_lowered.specs.Locations.{Linking}
use Rattle.c_counted.specs.Numbers.{IsNumber}
use Rattle.c_addressing.specs.declared.here.Here as rust
use Rattle.c_addressing.specs.declared.here.Output.{Output}
use Rattle.c_addressing.specs.Here.{IsHere}
use Rattle.c_applied.specs.Leads.{Leads}

-- code of so many literals and jumps is added, where it stands in a block and may use the frame from a word on; the kinds of structs are those of the place
abbrev pub AddsKnowing : StructKinds → rust.Here → Output → Output → (k d : ℕ) → Result ℕ AllocError → (Linking → Environment → ℕ → ℕ → List Op) → (literals : Scope → ℕ) → (jumps : ℕ) → Type 0
AddsKnowing structs h old new k d result code literals jumps =
    (w : Linking) (env : Environment) (m n : ℕ) → IsHere h old w env → AreStructKinds old.types structs env.scope.tags → IsNumber k m → IsNumber d n
    → IfOk result (λ r. Leads old new (code w env m n) (literals env.scope) r (m + jumps))
