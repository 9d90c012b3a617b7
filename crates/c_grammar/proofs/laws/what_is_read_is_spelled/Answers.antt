use Rattle.c_grammar.proofs.Sound.{whole_spelled}
use Rattle.c_grammar.proofs.laws.what_is_read_is_spelled.Goals as goal

pub returns : goal.returns
returns c = whole_spelled
