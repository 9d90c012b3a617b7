use Rattle.c_grammar.proofs.Valued.{refused}
use Rattle.c_grammar.proofs.laws.values_refuse_the_first_bad.Goals as goal

pub returns : goal.returns
returns c = refused
