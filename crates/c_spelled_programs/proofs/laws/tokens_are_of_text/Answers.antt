use Rattle.c_spelled_programs.proofs.TextTokensWhole.{tokens_are_of_text as law}
use Rattle.c_spelled_programs.proofs.laws.tokens_are_of_text.Goals as goal

pub returns : goal.returns
returns c = law
