-- Which status comes, and exactly where.
use Rattle.std.specs.Prelude.{◌≡◌, ◌⊎◌, ◌<◌, ◌≤◌, ◌^◌, ℕ, List, None, Some, length, true}
use Rattle.std.specs.declared.option.Option.{Option}
use Rattle.mach_core.specs.declared.machine.Status.{Status}
use Rattle.mach_core.specs.declared.machine.Status.TheVariants as standing
use Rattle.mach_core.specs.Outside.{Texts, text_under}
use Rattle.elvm_words.specs.Invocation.{Invocation, build, compile, eir, emit, evaluate, optimise, run, sample}
use Rattle.eir_core.specs.Eir.{Eir, size_of}
use Rattle.elvm_cli.specs.Seen.{InputRises, OutRises, Seen, ShelfRises}
use Rattle.elvm_cli.specs.Line.{status_of}
use Rattle.elvm_cli.specs.Runs.{Runs}
use Rattle.elvm_cli.specs.Shows.{OfProgram}
use Rattle.elvm_cli.specs.Languages.{EirRefused, EirSpells, eir_runs}
use Rattle.c_compiled.specs.Compiled.{compiled}
use Rattle.elvm_cli.specs.Sources.{CRefused, CSpells, c_runs}
use Rattle.elvm_cli.specs.Targets.{Language, emitted_in, in_language, runs_in}
use Rattle.elvm_cli.specs.Answer.{reads_file, takes_input}
use Rattle.elvm_cli.specs.declared.outcome.Outcome.{Outcome}
use Rattle.elvm_cli.specs.declared.outcome.Outcome.TheVariants.{Refused, TooLarge}

-- ---- which statuses a text allows

-- a program allows 0 where it is emitted, and 8 above the limit
abbrev pub EmitAllows : ℕ → Eir → ℕ → Type 0
EmitAllows limit program status = ((size_of program ≤ limit) × (status ≡ 0)) ⊎ ((limit < size_of program) × (status ≡ 8))

-- a text that is put out allows 0
abbrev pub PutAllows : ℕ → Type 0
PutAllows status = status ≡ 0

-- the status of a run that stands so after its steps
abbrev pub standing_status : Status → ℕ
standing_status standing.Ended = 0
standing_status standing.Going = 3
standing_status (standing.Fault code) = 4

-- a run allows the status of how it stands on the input after so many steps
abbrev pub RunAllows : List ℕ → ℕ → Runs → ℕ → Type 0
RunAllows i steps runs status = status ≡ standing_status (runs i steps).standing

-- a text that comes out so is refused
abbrev pub IsRefusal : Outcome → Type 0
IsRefusal TooLarge = Unit {0}
IsRefusal (Refused kind place) = Unit {0}
IsRefusal _ = ⊥

-- a text allows what a program does that it spells, or is refused with the status
abbrev pub TextAllows : {P : Type 0} → (List ℕ → P → Type 0) → (List ℕ → Outcome → Type 0) → (P → ℕ → Type 0) → List ℕ → ℕ → Type 0
TextAllows Spells IsRefused ProgramAllows text status =
    OfProgram Spells text (λ program. ProgramAllows program status)
    ⊎ ((outcome : Outcome) × IsRefusal outcome × IsRefused text outcome × (status ≡ status_of outcome))

-- a file allows 5 where it is missing, 8 where it is too long, and else what its text does
abbrev pub FileAllows : (List ℕ → ℕ → Type 0) → List ℕ → Texts → ℕ → Type 0
FileAllows OfTextAllows name texts status =
    ((text_under name texts ≡ None) × (status ≡ 5))
    ⊎ ((text : List ℕ) × (text_under name texts ≡ Some text)
    × (((2 ^ 29 < length text) × (status ≡ 8)) ⊎ ((length text ≤ 2 ^ 29) × OfTextAllows text status)))

-- a text of a target allows what the run of its program does
abbrev pub TargetAllows : Language → List ℕ → ℕ → List ℕ → ℕ → Type 0
TargetAllows l i steps = TextAllows l.spells l.refused (λ code. RunAllows i steps (runs_in l code))

-- what is asked for allows this status, on a shelf of these texts and on this input
abbrev pub Allows : Option Invocation → Texts → List ℕ → ℕ → Type 0
Allows (Some (eir file steps)) texts i = FileAllows (TextAllows EirSpells EirRefused (λ program. RunAllows i steps (eir_runs program))) file texts
Allows (Some (emit target file)) texts i = FileAllows (TextAllows EirSpells EirRefused (EmitAllows (emitted_in target).limit)) file texts
Allows (Some (run target file steps codel)) texts i = FileAllows (TargetAllows (in_language target codel) i steps) file texts
Allows (Some (evaluate file fuel)) texts i = FileAllows (TextAllows CSpells CRefused (λ u. RunAllows i fuel (c_runs u))) file texts
Allows (Some (optimise file)) texts i = FileAllows (TextAllows EirSpells EirRefused (λ program. PutAllows)) file texts
Allows (Some (compile file)) texts i = FileAllows (TextAllows CSpells CRefused (λ u. PutAllows)) file texts
Allows (Some (build target file)) texts i = FileAllows (TextAllows CSpells CRefused (λ u. EmitAllows (emitted_in target).limit (compiled u))) file texts
Allows (Some (sample blocks)) texts i = PutAllows
Allows None texts i = λ status. status ≡ 2

-- it decides the status: it allows this one alone
pub record Decides (asked : Option Invocation) (texts : Texts) (i : List ℕ) (status : ℕ) : Type 0 where
  pub allows : Allows asked texts i status
  pub alone : (other : ℕ) → Allows asked texts i other → other ≡ status

-- ---- which comes

-- the shelf tells these texts and the input these bytes, as far as they are asked for
pub record AreTold (asked : Option Invocation) (seen : Seen) (texts : Texts) (i : List ℕ) : Type 0 where
  pub shelf : reads_file asked ≡ true → seen.shelf.texts ≡ Some texts
  pub input : takes_input asked ≡ true → seen.input.left ≡ Some i

-- the status says that something was done
abbrev pub IsDeed : ℕ → Type 0
IsDeed status = (status ≡ 0) ⊎ ((status ≡ 3) ⊎ (status ≡ 4))

-- this status comes, or in its place 5 with a fault of the shelf, 6 or 7 with one of the input or out where something was done, or 9
abbrev pub Comes : Option Invocation → Seen → ℕ → ℕ → Type 0
Comes asked seen status answer = (answer ≡ status)
    ⊎ (((answer ≡ 5) × (reads_file asked ≡ true) × ShelfRises seen.shelf)
    ⊎ (((answer ≡ 6) × (takes_input asked ≡ true) × InputRises seen.input × IsDeed status)
    ⊎ (((answer ≡ 7) × OutRises seen.out × IsDeed status)
    ⊎ (answer ≡ 9))))

-- a status that is allowed comes
abbrev pub IsExact : Option Invocation → Seen → ℕ → Type 0
IsExact asked seen answer = (texts : Texts) (i : List ℕ) → AreTold asked seen texts i
    → (status : ℕ) × Allows asked texts i status × Comes asked seen status answer

-- where no count rose, the status that is decided comes, or 9
abbrev pub IsComplete : Option Invocation → Seen → ℕ → Type 0
IsComplete asked seen answer = (texts : Texts) (i : List ℕ) (status : ℕ) → AreTold asked seen texts i → Decides asked texts i status
    → (ShelfRises seen.shelf → ⊥) → (InputRises seen.input → ⊥) → (OutRises seen.out → ⊥)
    → (answer ≡ status) ⊎ (answer ≡ 9)
