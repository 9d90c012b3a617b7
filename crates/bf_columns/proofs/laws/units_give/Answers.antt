use Rattle.bf_columns.proofs.UnitsGiven.{units_give}
use Rattle.bf_columns.proofs.laws.units_give.Goals as goal

pub returns : goal.returns
returns c = units_give
