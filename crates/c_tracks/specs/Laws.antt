-- Laws: the plain machine goes along with the machine of C's code.
use Rattle.std.specs.Prelude.{◌≡◌, ℕ, List}
use Rattle.mach_core.specs.Rule.{Moment, run_from}
use Rattle.c_rule.specs.Stepping as rule
use Rattle.c_rule.specs.Stepping.{FlatCode, code_rule}
use Rattle.c_plain.specs.Machine as plain
use Rattle.c_plain.specs.Program.{Program}
use Rattle.c_plain.specs.Rule.{rule_of}
use Rattle.c_resolved.specs.Means.{tables_of, file_lengths}
use Rattle.c_tracks.specs.Tracks.{Tracks, IsCode}

-- one step on both sides
pub record StepsAlike (names : List (List ℕ)) (p : Program) (f : FlatCode) (k : rule.Config) (l : plain.Config) (byte : ℕ) : Type 0 where
  pub standing : (rule_of p).standing l ≡ (code_rule f).standing k
  pub wants : (rule_of p).wants l ≡ (code_rule f).wants k
  pub next : Tracks (file_lengths p) (tables_of names p) ((code_rule f).next k byte) ((rule_of p).next l byte)
  pub written : (rule_of p).written l byte ≡ (code_rule f).written k byte

-- configurations that go along with one another do so after each step
abbrev pub PlainStepsTrackCode : Type 0
PlainStepsTrackCode =
    (names : List (List ℕ)) (p : Program) (f : FlatCode) → IsCode names p f → (k : rule.Config) (l : plain.Config) (byte : ℕ) → Tracks (file_lengths p) (tables_of names p) k l → StepsAlike names p f k l byte

-- two moments: configurations that go along with one another, as many bytes taken, and the same output
pub record SameMoment (names : List (List ℕ)) (p : Program) (a : Moment rule.Config) (b : Moment plain.Config) : Type 0 where
  pub config : Tracks (file_lengths p) (tables_of names p) a.config b.config
  pub taken : b.taken ≡ a.taken
  pub output : b.output ≡ a.output

-- so do runs
abbrev pub PlainRunsTrackCode : Type 0
PlainRunsTrackCode =
    (names : List (List ℕ)) (p : Program) (f : FlatCode) → IsCode names p f → (a : Moment rule.Config) (b : Moment plain.Config) (input : List ℕ) (n : ℕ) → SameMoment names p a b
    → SameMoment names p (run_from (code_rule f) input a n) (run_from (rule_of p) input b n)
