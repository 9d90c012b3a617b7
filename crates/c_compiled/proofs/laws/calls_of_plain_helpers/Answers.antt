use Rattle.c_compiled.proofs.Printing.{calls_of_plain_helpers as law}
use Rattle.c_compiled.proofs.laws.calls_of_plain_helpers.Goals as goal

pub returns : goal.returns
returns c = law
