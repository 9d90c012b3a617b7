-- What the answer of a call shows.
--
-- | Status | Comes |
-- |---|---|
-- | 0 | it was done: the program was emitted or printed, the run has ended, or the sample's line was written |
-- | 1 | the file's text is refused, for the reason that the line names |
-- | 2 | the words ask for nothing |
-- | 3 | the run is going after as many steps, or units of fuel, as were allowed |
-- | 4 | the run is at a fault, or at an undefined act of C |
-- | 5 | the file can't be read |
-- | 6 | the input can't be read |
-- | 7 | the output can't be written |
-- | 8 | the file, or the program in it, is too large |
-- | 9 | there was no memory |
use Rattle.std.specs.Prelude.{◌≡◌, ◌⊎◌, ℕ, List, [], None, Some, Bool, true, false}
use Rattle.std.specs.declared.option.Option.{Option}
use Rattle.elvm_words.specs.Invocation.{Invocation, build, compile, eir, emit, evaluate, optimise, run, sample}
use Rattle.elvm_cli.specs.Seen.{AreUntouched, GotLine, OnShelf, OnSink, OnSource, Seen}
use Rattle.elvm_cli.specs.Line.{line_of, status_of}
use Rattle.elvm_cli.specs.Shows.{EmitTextShows, FileShows, FueledShows, PutTextShows, RunTextShows, SampleShows, TextShows, UsageShows}
use Rattle.elvm_cli.specs.Languages.{EirRefused, EirSpells, eir_runs, optimised_text}
use Rattle.elvm_cli.specs.Sources.{BuildTextShows, CRefused, CSpells, CompileTextShows, c_runs}
use Rattle.elvm_cli.specs.Targets.{IsBuiltIn, StandsIn, emitted_in, in_language, runs_in}
use Rattle.elvm_cli.specs.declared.outcome.Outcome.{Outcome}
use Rattle.elvm_cli.specs.declared.outcome.Outcome.TheVariants.{NoFile, Refused, TooLarge, Usage}

-- the name of the file that was asked for
abbrev pub file_of : Option Invocation → List ℕ
file_of (Some (compile file)) = file
file_of (Some (eir file steps)) = file
file_of (Some (emit target file)) = file
file_of (Some (build target file)) = file
file_of (Some (run target file steps codel)) = file
file_of (Some (optimise file)) = file
file_of (Some (evaluate file fuel)) = file
file_of _ = []

-- what a text shows, by what is done with it
abbrev pub DeedShows : Invocation → OnSource → OnSink → List ℕ → Outcome → Type 0
DeedShows (eir file steps) input out = RunTextShows EirSpells EirRefused eir_runs steps input out
DeedShows (emit target file) input out = EmitTextShows EirSpells EirRefused (emitted_in target).limit (StandsIn target) out
DeedShows (run target file steps codel) input out =
    let l = in_language target codel in RunTextShows l.spells l.refused (runs_in l) steps input out
DeedShows (optimise file) input out = PutTextShows EirSpells EirRefused optimised_text out
DeedShows (evaluate file fuel) input out = TextShows CSpells CRefused (λ u. FueledShows (c_runs u) fuel input out) (AreUntouched input out)
DeedShows (compile file) input out = CompileTextShows out
DeedShows (build target file) input out = BuildTextShows (emitted_in target).limit (IsBuiltIn target) out
DeedShows (sample blocks) input out = λ text outcome. ⊥

-- what each outcome shows, by what was asked
abbrev pub CallShows : Option Invocation → OnShelf → OnSource → OnSink → Outcome → Type 0
CallShows None shelf input out = UsageShows out
CallShows (Some (sample blocks)) shelf input out = SampleShows blocks out
CallShows (Some asked) shelf input out = FileShows (DeedShows asked input out) shelf input out (file_of (Some asked))

-- the answer of a call is the status of an outcome that shows this, with its line
pub record Answers (asked : Option Invocation) (seen : Seen) (answer : ℕ) : Type 0 where
  pub outcome : Outcome
  pub status : answer ≡ status_of outcome
  pub shows : CallShows asked seen.shelf seen.input seen.out outcome
  pub line : GotLine seen.errs (line_of (file_of asked) outcome)

-- what is asked for takes input
abbrev pub takes_input : Option Invocation → Bool
takes_input (Some (eir file steps)) = true
takes_input (Some (run target file steps codel)) = true
takes_input (Some (evaluate file fuel)) = true
takes_input _ = false

-- what is asked for reads a file
abbrev pub reads_file : Option Invocation → Bool
reads_file None = false
reads_file (Some (sample blocks)) = false
reads_file (Some asked) = true

-- nothing was begun: the words were refused, no text was read, or it gave no program
abbrev pub IsEarly : Outcome → Type 0
IsEarly Usage = Unit {0}
IsEarly NoFile = Unit {0}
IsEarly TooLarge = Unit {0}
IsEarly (Refused kind place) = Unit {0}
IsEarly _ = ⊥

-- the statuses of these outcomes
abbrev pub IsEarlyStatus : ℕ → Type 0
IsEarlyStatus answer = (answer ≡ 1) ⊎ ((answer ≡ 2) ⊎ ((answer ≡ 5) ⊎ (answer ≡ 8)))
