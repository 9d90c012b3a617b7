-- A run of the program that a text spells.
use Rattle.std.proofs.Common.{ℕ, List, inr}
use Rattle.mach_core.specs.Rule.{Rule}
use Rattle.elvm_cli.specs.Seen.{OnSink, OnSource}
use Rattle.elvm_cli.specs.Runs.{runs_by}
use Rattle.elvm_cli.specs.Shows.{RunShows, RunTextShows}
use Rattle.elvm_cli.specs.Languages.{StandsAtStart}
use Rattle.elvm_cli.specs.declared.outcome.Outcome.{Outcome}

pub loaded_shows : {P C : Type 0} (Spells : List ℕ → P → Type 0) (IsRefused : List ℕ → Outcome → Type 0) (rule : P → Rule C) (start : P → C) (steps : ℕ) (input : OnSource) (out : OnSink) (text : List ℕ)
    (own : Rule C) (now : C) (outcome : Outcome) → StandsAtStart (Spells text) rule start own now → RunShows (runs_by own now) steps input out outcome
    → RunTextShows Spells IsRefused (λ program. runs_by (rule program) (start program)) steps input out text outcome
loaded_shows Spells IsRefused rule start steps input out text own now outcome loaded shows = inr (loaded.program, loaded.is_of, rw (loaded.goes, loaded.stands) at shows)
