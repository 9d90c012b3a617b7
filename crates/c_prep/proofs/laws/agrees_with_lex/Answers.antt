use Rattle.c_prep.proofs.Agreeing.{agrees_with_lex}
use Rattle.c_prep.proofs.laws.agrees_with_lex.Goals as goal

pub returns : goal.returns
returns c = agrees_with_lex
