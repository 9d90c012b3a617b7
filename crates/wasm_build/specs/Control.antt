-- The ways of control, step by step.
use Rattle.std.specs.Prelude.{◌≡◌, ◌≢◌, ℕ, ◌%◌, ◌^◌, Bool, true, false, List, [], ◌∷◌, ◌++◌, length, drop, slice_get, slice_index, slice_index_or, Some}
use Rattle.std.specs.Str.{bytes_eq}
use Rattle.wasm_bin.specs.declared.module.Import.{Import}
use Rattle.wasm_bin.specs.declared.module.Instr.{Instr}
use Rattle.wasm_bin.specs.declared.module.Instr.TheVariants.{Block, Loop, End, Br, BrIf, BrTable, Return, Call}
use Rattle.wasm_bin.specs.declared.module.Module.{Module}
use Rattle.wasm_rule.specs.Values.{lowest, topped}
use Rattle.wasm_rule.specs.Code.{past_end}
use Rattle.wasm_rule.specs.Config.{Label}
use Rattle.wasm_rule.specs.Step.{getchar_name}
use Rattle.wasm_build.specs.Straight.{Stage, ran}
use Rattle.wasm_build.specs.Lead.{spot, Leads, Ends, Takes, Writes}

abbrev pub with_values : Stage → List ℕ → Stage
with_values s values = record s { values = values }

-- what a branch to a label leaves
abbrev pub branched : Label → Stage → Stage
branched label s = with_values s (topped label.takes (slice_index s.values 0) (lowest label.beneath s.values))

-- straight code is run in as many steps as it has instructions
abbrev pub StraightCodeRuns : Module → Type 0
StraightCodeRuns m = (code rest : List Instr) (labels : List Label) (s s' : Stage) → ran code s ≡ Some s' → Leads m (spot s labels (code ++ rest)) (length code) (spot s' labels rest)

-- blocks begin and end
pub record BlocksOpenAndClose (m : Module) : Type 0 where
  -- a branch to a block goes behind its end
  pub block : (s : Stage) (labels : List Label) (gives : Bool) (code : List Instr) →
      Leads m (spot s labels (Block gives ∷ code)) 1 (spot s (record { takes = gives; beneath = length s.values; next = past_end 0 code } ∷ labels) code)
  -- and one to a loop goes to its beginning
  pub loop : (s : Stage) (labels : List Label) (gives : Bool) (code : List Instr) →
      Leads m (spot s labels (Loop gives ∷ code)) 1 (spot s (record { takes = false; beneath = length s.values; next = Loop gives ∷ code } ∷ labels) code)
  pub close : (s : Stage) (label : Label) (labels : List Label) (code : List Instr) → Leads m (spot s (label ∷ labels) (End ∷ code)) 1 (spot s labels code)

-- branches go on at a label, of which the outer ones stay
pub record BranchesGoOut (m : Module) : Type 0 where
  pub always : (s : Stage) (labels outer : List Label) (label : Label) (depth : ℕ) (code : List Instr) → drop depth labels ≡ label ∷ outer →
      Leads m (spot s labels (Br depth ∷ code)) 1 (spot (branched label s) outer label.next)
  -- on 0 there is no branch
  pub not_taken : (s : Stage) (values : List ℕ) (labels : List Label) (depth : ℕ) (code : List Instr) →
      Leads m (spot (with_values s (0 ∷ values)) labels (BrIf depth ∷ code)) 1 (spot (with_values s values) labels code)
  pub taken : (s : Stage) (values : List ℕ) (value : ℕ) (labels outer : List Label) (label : Label) (depth : ℕ) (code : List Instr) → value ≢ 0 → drop depth labels ≡ label ∷ outer →
      Leads m (spot (with_values s (value ∷ values)) labels (BrIf depth ∷ code)) 1 (spot (branched label (with_values s values)) outer label.next)
  pub table : (s : Stage) (values : List ℕ) (value : ℕ) (labels outer : List Label) (label : Label) (depths : List ℕ) (last : ℕ) (code : List Instr) → drop (slice_index_or depths value last) labels ≡ label ∷ outer →
      Leads m (spot (with_values s (value ∷ values)) labels (BrTable depths last ∷ code)) 1 (spot (branched label (with_values s values)) outer label.next)

-- the first call ends, and the run with it: by its last `end`, a `return`, or a branch past all blocks
pub record MainEnds (m : Module) : Type 0 where
  pub by_end : (s : Stage) (code : List Instr) → Ends m (spot s [] (End ∷ code))
  pub by_return : (s : Stage) (labels : List Label) (code : List Instr) → Ends m (spot s labels (Return ∷ code))
  pub by_table : (s : Stage) (values : List ℕ) (value : ℕ) (labels : List Label) (depths : List ℕ) (last : ℕ) (code : List Instr) → drop (slice_index_or depths value last) labels ≡ [] →
      Ends m (spot (with_values s (value ∷ values)) labels (BrTable depths last ∷ code))

-- calls of the host
pub record HostIsCalled (m : Module) : Type 0 where
  pub getchar : (s : Stage) (labels : List Label) (func : ℕ) (import : Import) (code : List Instr) → slice_get m.imports func ≡ Some import → bytes_eq import.name getchar_name ≡ true →
      Takes m (spot s labels (Call func ∷ code)) (λ byte. spot (with_values s (byte ∷ s.values)) labels code)
  pub putchar : (s : Stage) (values : List ℕ) (value : ℕ) (labels : List Label) (func : ℕ) (import : Import) (code : List Instr) → slice_get m.imports func ≡ Some import → bytes_eq import.name getchar_name ≡ false →
      Writes m (spot (with_values s (value ∷ values)) labels (Call func ∷ code)) (value % 2 ^ 8) (spot (with_values s values) labels code)
