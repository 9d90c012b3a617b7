use Rattle.c_fewer_items.proofs.Items.{found_stands}
use Rattle.c_fewer_items.proofs.laws.functions_are_found.Goals as goal

pub returns : goal.returns
returns c = found_stands
