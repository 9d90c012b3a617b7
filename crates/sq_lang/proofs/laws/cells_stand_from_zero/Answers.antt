use Rattle.sq_lang.proofs.CellsAtStart.{cells_stand_from_zero}
use Rattle.sq_lang.proofs.laws.cells_stand_from_zero.Goals as goal

pub returns : goal.returns
returns c = cells_stand_from_zero
