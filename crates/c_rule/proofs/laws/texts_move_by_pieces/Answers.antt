use Rattle.c_rule.proofs.Fits.{texts_move_by_pieces as law}
use Rattle.c_rule.proofs.laws.texts_move_by_pieces.Goals as goal

pub returns : goal.returns
returns c = law
