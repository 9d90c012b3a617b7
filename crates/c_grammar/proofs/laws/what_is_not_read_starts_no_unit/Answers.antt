use Rattle.c_grammar.proofs.Exact.{no_start}
use Rattle.c_grammar.proofs.laws.what_is_not_read_starts_no_unit.Goals as goal

pub returns : goal.returns
returns c = no_start
