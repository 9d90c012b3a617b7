-- What functions that emit code say.
use Rattle.std.specs.Prelude.{◌≡◌, ℕ, ◌+◌, List, Result, IfOk}
use Rattle.std.specs.declared.alloc.AllocError.{AllocError}
use Rattle.eir_core.specs.declared.ops.Op.{Op}
use Rattle.c_types.specs.Scope.{Scope}
use Rattle.c_eval.specs.Environment.{Environment}
use Rattle.c_lowered.specs.Locations.{Linking}
use Rattle.c_lowered.specs.Operations.{Operands}
use Rattle.c_counted.specs.Numbers.{IsNumber}
use Rattle.c_addressing.specs.declared.here.Here as rust
use Rattle.c_addressing.specs.declared.here.Output.{Output}
use Rattle.c_addressing.specs.Here.{IsHere}
use Rattle.c_applied.specs.Leads.{Leads}
use Rattle.c_lower_expressions.specs.declared.expressions.Sides.{Sides}

-- operands stand ready behind code
pub record Readies (old new : Output) (p : Operands) (literals : ℕ) (told : Sides) (block : ℕ) : Type 0 where
  pub leads : Leads old new p.code literals told.behind block
  pub first : told.first ≡ p.first
  pub second : told.second ≡ p.second

-- code of so many literals and jumps is added, where it stands in a block and may use the frame from a word on
abbrev pub Adds : rust.Here → Output → Output → (k d : ℕ) → Result ℕ AllocError → (Linking → Environment → ℕ → ℕ → List Op) → (literals : Scope → ℕ) → (jumps : ℕ) → Type 0
Adds h old new k d result code literals jumps =
    (w : Linking) (env : Environment) (m n : ℕ) → IsHere h old w env → IsNumber k m → IsNumber d n → IfOk result (λ r. Leads old new (code w env m n) (literals env.scope) r (m + jumps))

-- operands likewise
abbrev pub AddsSides : rust.Here → Output → Output → (k d : ℕ) → Result Sides AllocError → (Linking → Environment → ℕ → ℕ → Operands) → (literals : Scope → ℕ) → (jumps : ℕ) → Type 0
AddsSides h old new k d result sides literals jumps =
    (w : Linking) (env : Environment) (m n : ℕ) → IsHere h old w env → IsNumber k m → IsNumber d n → IfOk result (λ r. Readies old new (sides w env m n) (literals env.scope) r (m + jumps))
