use Rattle.std.proofs.Common.{arith}
use Rattle.c_lowered.specs.Expressions.{value_code}
use Rattle.c_lowered.proofs.Jumping.{value_jumps, truth_jumps_are}
use Rattle.c_lowered.proofs.Flowing.{stmt_jumps_are}
use Rattle.c_stated.proofs.CostsValues.{value_most, truth_most, value_fits, truth_fits}
use Rattle.c_stated.proofs.Flows.{stmt_fits}
use Rattle.c_stated.proofs.laws.code_fits_its_cost.Goals as goal

pub returns : goal.returns
returns c = record {
  value = λ e w here k d. omega (arith, (value_most e w here k d).bound, (value_jumps e w here k d).count, value_fits e);
  condition = λ e w here k d holds target. omega (arith, (truth_most e w here k d (value_code e w here k d) (value_most e w here k d) holds target).bound, (truth_jumps_are e w here k d (value_code e w here k d) (value_jumps e w here k d) holds target).count, truth_fits e);
  statement = λ t w here k d to. omega (arith, (stmt_fits t w here k d to).room, (stmt_jumps_are t w here k d to).count);
}
