use Rattle.c_compiled.proofs.Printing.{strings_are_spelled as law}
use Rattle.c_compiled.proofs.laws.strings_are_spelled.Goals as goal

pub returns : goal.returns
returns c = law
