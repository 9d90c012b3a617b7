use Rattle.c_lowered.specs.Expressions.{value_code}
use Rattle.c_lowered.proofs.Jumping.{value_jumps, truth_jumps_are}
use Rattle.c_lowered.proofs.Flowing.{stmt_jumps_are}
use Rattle.c_lowered.proofs.laws.jumps_are_counted.Goals as goal

pub returns : goal.returns
returns c = record {
  value = λ e w here k d. (value_jumps e w here k d).count;
  condition = λ e w here k d holds target. (truth_jumps_are e w here k d (value_code e w here k d) (value_jumps e w here k d) holds target).count;
  statement = λ t w here k d to. (stmt_jumps_are t w here k d to).count;
}
