-- What can be seen of a run, whatever it is that runs.
use Rattle.std.specs.Prelude.{ℕ, List, Bool}
use Rattle.mach_core.specs.declared.machine.Status.{Status}
use Rattle.mach_core.specs.Rule.{Rule, run}

-- how a run stands, whether its next step takes a byte, how many bytes it has taken and all that it has written
pub record Sight : Type 0 where
  pub standing : Status
  pub wants : Bool
  pub taken : ℕ
  pub output : List ℕ

-- what is seen on each input after each number of steps
abbrev pub Runs : Type 0
Runs = List ℕ → ℕ → Sight

-- the runs of a rule from a configuration
abbrev pub runs_by : {C : Type 0} → Rule C → C → Runs
runs_by rule start i n = record {
  standing = rule.standing (run rule start i n).config;
  wants = rule.wants (run rule start i n).config;
  taken = (run rule start i n).taken;
  output = (run rule start i n).output;
}
