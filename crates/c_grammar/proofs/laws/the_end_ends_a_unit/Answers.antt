use Rattle.c_grammar.proofs.Endings.{end_is_whole}
use Rattle.c_grammar.proofs.laws.the_end_ends_a_unit.Goals as goal

pub returns : goal.returns
returns c = λ ts e s ce h. let w = end_is_whole ts e s ce h in (w.kids, w.is_whole)
