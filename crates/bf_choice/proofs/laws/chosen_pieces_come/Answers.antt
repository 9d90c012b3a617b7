use Rattle.bf_choice.proofs.At.{does_tree_at}
use Rattle.bf_choice.proofs.laws.chosen_pieces_come.Goals as goal

pub returns : goal.returns
returns c = does_tree_at
