use Rattle.c_formats.proofs.FormatsFailingFunction.{strings_fail as law}
use Rattle.c_formats.proofs.laws.strings_fail.Goals as goal

pub returns : goal.returns
returns c = law
