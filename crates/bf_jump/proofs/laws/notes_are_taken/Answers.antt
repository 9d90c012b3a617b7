use Rattle.bf_jump.proofs.Rows.{notes_taken}
use Rattle.bf_jump.proofs.laws.notes_are_taken.Goals as goal

pub returns : goal.returns
returns c = notes_taken
