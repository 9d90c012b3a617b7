use Rattle.c_formats.proofs.Lines.{strings_are_put as law}
use Rattle.c_formats.proofs.laws.strings_are_put.Goals as goal

pub returns : goal.returns
returns c = law
