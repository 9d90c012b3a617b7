use Rattle.bf_choice.proofs.Chosen.{chosen_runs}
use Rattle.bf_choice.proofs.laws.chosen_pieces_run.Goals as goal

pub returns : goal.returns
returns c = chosen_runs
