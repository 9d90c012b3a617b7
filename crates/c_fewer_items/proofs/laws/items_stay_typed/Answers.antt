use Rattle.c_fewer_items.proofs.Items.{items_go}
use Rattle.c_fewer_items.proofs.laws.items_stay_typed.Goals as goal

pub returns : goal.returns
returns c = λ test names s s' items r a h e. let k = items_go test names items s s' r a h e in (k.other, k.is, k.stand, k.functions)
