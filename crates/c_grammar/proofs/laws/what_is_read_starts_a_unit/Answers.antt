use Rattle.c_grammar.proofs.Alive.{starts}
use Rattle.c_grammar.proofs.laws.what_is_read_starts_a_unit.Goals as goal

pub returns : goal.returns
returns c = starts
