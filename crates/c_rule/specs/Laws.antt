-- Laws of the rule.
use Rattle.std.specs.Prelude.{◌≡◌, ◌≢◌, ℕ, ◌+◌, ◌<◌, true, cond, List, [], ◌++◌, codes}
use Rattle.std.specs.List.{AllByRecursion}
use Rattle.mach_core.specs.declared.machine.Moved.{Moved}
use Rattle.mach_core.specs.declared.machine.Status.TheVariants as status
use Rattle.mach_core.specs.Moved.{MovesBy}
use Rattle.mach_core.specs.Rule.{Moment, run, run_from, FaultsAreSilent}
use Rattle.c_syntax.specs.Words.{meaning}
use Rattle.c_syntax.specs.Plain.{CUnit}
use Rattle.c_eval.specs.State.{number_of, State, Gives}
use Rattle.c_eval.specs.Text.{text_of}
use Rattle.c_eval.specs.Meaning.{End, Ended, Going, Undefined, Meaning, own_rules, opening, meaning_of}
use Rattle.c_code.specs.Machine.{Control, Program, called, drive, program_of, nothing_yet}
use Rattle.c_rule.specs.Stepping.{FlatCode, code_of, Config, AtEnd, AtFault, config_of, moment_of, standing_of, code_rule, is_single}

-- so many steps of the rule come to what so many instructions come to
abbrev pub RuleRunsCode : Type 0
RuleRunsCode = (p : Program) (c : Control) (st : State) (n : ℕ) → run_from (code_rule (code_of p)) p.input (moment_of (Gives c st)) n ≡ moment_of (drive p n c st)

-- an instruction that comes to a fault has taken nothing and written nothing, where none writes more than one piece
abbrev pub FaultsOfCodeAreSilent : Type 0
FaultsOfCodeAreSilent = (f : FlatCode) → AllByRecursion (λ i. is_single i ≡ true) f.instructions → FaultsAreSilent (code_rule f)

-- each step is one that a machine tells: it takes a byte, writes one or the decimal text of a number, or does neither
abbrev pub MovesByPieces : FlatCode → Type 0
MovesByPieces f = (k : Config) (byte : ℕ) → (moved : Moved) × MovesBy (code_rule f) k byte ((code_rule f).next k (cond ((code_rule f).wants k) byte 0)) moved

abbrev pub CodeMovesByPieces : Type 0
CodeMovesByPieces = (f : FlatCode) → AllByRecursion (λ i. is_single i ≡ true) f.instructions → MovesByPieces f

-- ---- whole texts

abbrev pub text_code : CUnit → FlatCode
text_code u = code_of (program_of (own_rules u) (text_of u) [])

-- where the opening call leaves the machine
abbrev pub text_start : CUnit → ℕ → Config
text_start u fuel = config_of (called nothing_yet [] (meaning (text_code u).entries (codes "main")) [] (opening (text_of u) fuel))

abbrev pub config_at : End → Config
config_at Ended = AtEnd
config_at Going = AtFault 0
config_at (Undefined act) = AtFault (number_of act)

-- where a run stands that has come to a meaning
abbrev pub told : Meaning → Moment Config
told m = record { config = config_at m.end; taken = m.taken; output = m.output }

-- for each text, input and fuel there is a count of steps from which on the rule stands where the text's meaning has come to
abbrev pub RuleMeansText : Type 0
RuleMeansText = (u : CUnit) (input : List ℕ) (fuel : ℕ) → (k : ℕ) × ((n : ℕ) → run (code_rule (text_code u)) (text_start u fuel) input (k + n) ≡ told (meaning_of u input fuel))

-- a moment on the way to a meaning: what is written is its beginning, and where the machine stands still all of it holds
pub record BeginsMeaning (m : Moment Config) (meaning : Meaning) : Type 0 where
  pub output : (rest : List ℕ) × (m.output ++ rest ≡ meaning.output)
  pub stopped : standing_of m.config ≢ status.Going → m ≡ told meaning

abbrev pub RunsBeginMeanings : Type 0
RunsBeginMeanings = (u : CUnit) (input : List ℕ) (fuel count : ℕ) → BeginsMeaning (run (code_rule (text_code u)) (text_start u fuel) input count) (meaning_of u input fuel)

abbrev pub FaultsOfTextsAreSilent : Type 0
FaultsOfTextsAreSilent = (u : CUnit) → FaultsAreSilent (code_rule (text_code u))

abbrev pub TextsMoveByPieces : Type 0
TextsMoveByPieces = (u : CUnit) → MovesByPieces (text_code u)

-- a moment at which a byte is wanted: with the units that were spent before the last one the run is going still and shows what it shows then, and with one more it takes the byte and no other
pub record WantsBehindUnit (u : CUnit) (input : List ℕ) (fuel : ℕ) (m : Moment Config) : Type 0 where
  pub units : ℕ
  pub below : units < fuel
  pub before : meaning_of u input units ≡ record { end = Going; output = m.output; taken = m.taken }
  pub behind : (meaning_of u input (units + 1)).taken ≡ m.taken + 1

abbrev pub ReadsBehindUnits : Type 0
ReadsBehindUnits =
    (u : CUnit) (input : List ℕ) (fuel count : ℕ) → (code_rule (text_code u)).standing (run (code_rule (text_code u)) (text_start u fuel) input count).config ≡ status.Going →
    (code_rule (text_code u)).wants (run (code_rule (text_code u)) (text_start u fuel) input count).config ≡ true → WantsBehindUnit u input fuel (run (code_rule (text_code u)) (text_start u fuel) input count)
