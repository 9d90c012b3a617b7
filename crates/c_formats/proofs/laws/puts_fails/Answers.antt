use Rattle.c_formats.proofs.FormatsFailingPuts.{puts_fails as law}
use Rattle.c_formats.proofs.laws.puts_fails.Goals as goal

pub returns : goal.returns
returns c = law
