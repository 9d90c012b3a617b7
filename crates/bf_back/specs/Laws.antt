-- Laws of the translation.
use Rattle.std.specs.Prelude.{◌≡◌, ℕ, ◌+◌, ◌*◌, ◌≤◌, List, length, Some}
use Rattle.mach_core.specs.declared.machine.Status.TheVariants.{Going}
use Rattle.mach_core.specs.Rule.{Moment, IsInput, applied, run_from}
use Rattle.eir_core.specs.declared.ops.Op.{Op}
use Rattle.eir_core.specs.Eir.{Eir, IsEir, size_of}
use Rattle.eir_core.specs.Step.{Config, op_at, eir_rule}
use Rattle.sim_trait.specs.Alike.{Alike}
use Rattle.bf_lang.specs.declared.command.Command.{Command}
use Rattle.bf_lang.specs.Step.{Config as BfConfig, bf_rule}
use Rattle.bf_ops.specs.Perform.{steps_of}
use Rattle.bf_turn.specs.Turn.{turn_most}
use Rattle.bf_back.specs.Related.{Related}
use Rattle.bf_back.specs.Code.{whole_code}
use Rattle.bf_back.specs.Whole.{IsWhole, StandsFor}

-- a step of a program is followed by the commands of its operation, and by those of two turns besides at most: its own, and the last one where the program ends
abbrev pub FewCommandsFollow : Type 0
FewCommandsFollow =
    (p : Eir) (code : List Command) (input : List ℕ) (s : Moment Config) (m : Moment BfConfig) → IsEir p → IsWhole p code → IsInput input → Alike (Related p code) s m → (eir_rule p).standing s.config ≡ Going
    → (op : Op) × (op_at p s.config ≡ Some op) × ((j : ℕ) × (1 ≤ j) × (j ≤ steps_of op s.config.regs + 2 * turn_most p + 2) × Alike (Related p code) (applied (eir_rule p) input s) (run_from (bf_rule code) input m j))

-- the code of each program that is not too large does what the program does, and has at most 4,096 commands for each unit of the size and one more
pub record CodeIsWhole (p : Eir) : Type 0 where
  pub short : length (whole_code p) ≤ 4096 * (size_of p + 1)
  pub whole : IsWhole p (whole_code p)
  pub stands : StandsFor p (whole_code p)
