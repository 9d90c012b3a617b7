use Rattle.sq_lang.proofs.CellsInRange.{cells_stay_in_range}
use Rattle.sq_lang.proofs.laws.cells_stay_in_range.Goals as goal

pub returns : goal.returns
returns c = cells_stay_in_range
