use Rattle.c_fewer_items.proofs.Cells.{objects_same}
use Rattle.c_fewer_items.proofs.laws.objects_stay_the_same.Goals as goal

pub returns : goal.returns
returns c = λ test names s s' items r a h e objects next literals. let k = objects_same test names items s s' r a h e objects next literals in (k.cells, k.names_are)
