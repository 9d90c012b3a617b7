use Rattle.std.proofs.Common.{◌+◌, ◌*◌, arith}
use Rattle.c_valued.proofs.Costing.{steps_fit, truth_fits}
use Rattle.c_stated.proofs.Costs.{stmt_fits}
use Rattle.c_stated.proofs.Values.{steps_more, truth_more}
use Rattle.c_stated.proofs.WorthStatements.{stmt_more}
use Rattle.c_stated.proofs.laws.units_are_worth.Goals as goal

pub returns : goal.returns
returns c = record {
  value = λ u e. (let h = steps_fit e in let k = steps_more u e in omega (arith, h, k));
  condition = λ u e. (let h = truth_fits e in let k = truth_more u e in omega (arith, h, k));
  statement = λ u t site. (let h = stmt_fits t site in let k = stmt_more u t site in omega (arith, h, k));
}
