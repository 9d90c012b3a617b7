use Rattle.c_formats.proofs.FormatsFailingWhole.{formats_fail as law}
use Rattle.c_formats.proofs.laws.formats_fail.Goals as goal

pub returns : goal.returns
returns c = law
