-- A step takes a byte or writes a piece, and does neither where it comes to a fault.
use Rattle.std.proofs.Common.{◌≡◌, ℕ, zero, suc, List, [], ◌∷◌, Option, Some, None, Bool, true, false, refl, sym}
use Rattle.std.specs.Prelude.{◌||◌, cond, drop, slice_get, codes, if◌then◌else◌}
use Rattle.std.specs.List.{AllByRecursion}
use Rattle.std.specs.Str.{bytes_eq}
use Rattle.mach_core.specs.declared.machine.Status.TheVariants as status
use Rattle.mach_core.specs.declared.machine.Moved.{Moved}
use Rattle.mach_core.specs.declared.machine.Moved.TheVariants as move
use Rattle.mach_core.specs.Moved.{bytes_of, is_took}
use Rattle.mach_core.specs.Rule.{IsFault}
use Rattle.c_eval.specs.State as state
use Rattle.c_eval.specs.State.{Value, Word, HelperLimit, State, Outcome, Run}
use Rattle.c_eval.specs.Run.{after, ◌>>=◌, give, undefined, next_byte}
use Rattle.c_eval.specs.BuiltIns.{built_in, character}
use Rattle.c_code.specs.Code
use Rattle.c_code.specs.Code.{Instruction}
use Rattle.c_code.specs.Machine.{Control, Program, pushed, step_of, step_at}
use Rattle.c_rule.specs.Stepping.{Config, At, AtEnd, AtFault, Store, fresh, standing_of, state_of, config_of, takes, is_single, fed, code_rule}
use Rattle.c_rule.specs.Laws.{FaultsOfCodeAreSilent, CodeMovesByPieces}
use Rattle.c_rule.proofs.Instructions.{IsQuiet, instruction_steps}

-- what takes a byte comes to no fault
taking_goes : (a b : Bool) (input : List ℕ) (c : Control) (rest : List Value) (z : Run Value) (st : State) → (a || b) ≡ true →
    IsFault (standing_of (config_of (((if a then (next_byte input >>= λ c. give (character c)) else if b then (next_byte input >>= λ c. give (Word c)) else z) >>= λ v. give (pushed c rest v)) st))) → ⊥
unfolding next_byte ◌>>=◌ after give
taking_goes true b input c rest z st e f = f
taking_goes false true input c rest z st e f = f
taking_goes false false input c rest z st e f = absurd (cc e)

instruction_goes : (p : Program) (i : Instruction) (c : Control) (st : State) → takes (Some i) ≡ true → IsFault (standing_of (config_of (step_of p i c st))) → ⊥
unfolding step_of built_in
instruction_goes p (Code.BuiltIn name params n) c st e f = taking_goes (bytes_eq name (codes "getchar")) (bytes_eq name (codes "__builtin_getc")) p.input c (drop n c.stack) _ st e f
instruction_goes p i c st e f = absurd (cc e)

quiet_output : (st : State) (r : Outcome Control) → IsFault (standing_of (config_of r)) → IsQuiet st r → (state_of r).output ≡ st.output
quiet_output st (state.Gives c s) f q = absurd f
quiet_output st (state.Ended s) f q = absurd f
quiet_output st (state.Going s) f q = q
quiet_output st (state.Undefined act s) f q = q

by_taking : (p : Program) (i : Instruction) (c : Control) (st : State) (b : Bool) → takes (Some i) ≡ b → is_single i ≡ true → IsFault (standing_of (config_of (step_of p i c st))) → (b ≡ false) × ((state_of (step_of p i c st)).output ≡ st.output)
by_taking p i c st true e single f = absurd (instruction_goes p i c st e f)
by_taking p i c st false e single f = (refl, quiet_output st (step_of p i c st) f (((instruction_steps p i c e).piece single).quiet st))

-- the instruction at a place, if there is one
abbrev pub IsSingleAt : Option Instruction → Type 0
IsSingleAt None = Unit {0}
IsSingleAt (Some i) = is_single i ≡ true

pub single_at : (is : List Instruction) (at : ℕ) → AllByRecursion (λ i. is_single i ≡ true) is → IsSingleAt (slice_get is at)
single_at [] at all = tt
single_at (i ∷ is) zero all = all.0
single_at (i ∷ is) (suc at) all = single_at is at all.1

fault_step : (p : Program) (i : Option Instruction) (c : Control) (st : State) → IsSingleAt i → IsFault (standing_of (config_of (step_at p i c st))) → (takes i ≡ false) × ((state_of (step_at p i c st)).output ≡ st.output)
unfolding step_at undefined
fault_step p None c st single f = (refl, refl)
fault_step p (Some i) c st single f = by_taking p i c st (takes (Some i)) refl single f

-- what takes a byte writes nothing
taking_writes : (a b : Bool) (input : List ℕ) (c : Control) (rest : List Value) (z : Run Value) (st : State) → (a || b) ≡ true →
    (state_of (((if a then (next_byte input >>= λ c. give (character c)) else if b then (next_byte input >>= λ c. give (Word c)) else z) >>= λ v. give (pushed c rest v)) st)).output ≡ st.output
unfolding next_byte ◌>>=◌ after give
taking_writes true b input c rest z st e = refl
taking_writes false true input c rest z st e = refl
taking_writes false false input c rest z st e = absurd (cc e)

instruction_writes : (p : Program) (i : Instruction) (c : Control) (st : State) → takes (Some i) ≡ true → (state_of (step_of p i c st)).output ≡ st.output
unfolding step_of built_in
instruction_writes p (Code.BuiltIn name params n) c st e = taking_writes (bytes_eq name (codes "getchar")) (bytes_eq name (codes "__builtin_getc")) p.input c (drop n c.stack) _ st e
instruction_writes p i c st e = absurd (cc e)

-- what was taken and written in a step
record Moves (taking : Bool) (written : List ℕ) : Type 0 where
  moved : Moved
  took : is_took moved ≡ taking
  bytes : bytes_of moved ≡ written

moved_by : (p : Program) (i : Instruction) (c : Control) (s : Store) (b : Bool) → takes (Some i) ≡ b → is_single i ≡ true → Moves b (state_of (step_of p i c (fresh s))).output
moved_by p i c s true e single = record { moved = move.Took; took = refl; bytes = sym (instruction_writes p i c (fresh s) e) }
moved_by p i c s false e single = let t = ((instruction_steps p i c e).piece single).piece (fresh s) in record { moved = t.moved; took = t.took; bytes = sym t.output }

step_moves : (p : Program) (i : Option Instruction) (c : Control) (s : Store) → IsSingleAt i → Moves (takes i) (state_of (step_at p i c (fresh s))).output
unfolding step_at undefined
step_moves p None c s single = record { moved = move.Quiet; took = refl; bytes = refl }
step_moves p (Some i) c s single = moved_by p i c s (takes (Some i)) refl single

pub code_moves_by_pieces : CodeMovesByPieces
code_moves_by_pieces f all (At c s) byte =
    let fed_byte = cond (takes (slice_get f.instructions c.at)) byte 0 in
    let t = step_moves (fed f fed_byte) (slice_get f.instructions c.at) c s (single_at f.instructions c.at all) in
    (t.moved, record { config = refl; bytes = t.bytes; took = t.took })
code_moves_by_pieces f all AtEnd byte = (move.Quiet, record { config = refl; bytes = refl; took = refl })
code_moves_by_pieces f all (AtFault code) byte = (move.Quiet, record { config = refl; bytes = refl; took = refl })

pub faults_of_code_are_silent : FaultsOfCodeAreSilent
faults_of_code_are_silent f all = record { takes = takes_none; writes = writes_none }
  where
    takes_none : (k : Config) (byte : ℕ) → (code_rule f).standing k ≡ status.Going → IsFault ((code_rule f).standing ((code_rule f).next k byte)) → (code_rule f).wants k ≡ false
    takes_none (At c s) byte going fault = (fault_step (fed f byte) (slice_get f.instructions c.at) c (fresh s) (single_at f.instructions c.at all) fault).0
    takes_none AtEnd byte going fault = refl
    takes_none (AtFault code) byte going fault = refl

    writes_none : (k : Config) (byte : ℕ) → (code_rule f).standing k ≡ status.Going → IsFault ((code_rule f).standing ((code_rule f).next k byte)) → (code_rule f).written k byte ≡ []
    writes_none (At c s) byte going fault = (fault_step (fed f byte) (slice_get f.instructions c.at) c (fresh s) (single_at f.instructions c.at all) fault).1
    writes_none AtEnd byte going fault = refl
    writes_none (AtFault code) byte going fault = refl
