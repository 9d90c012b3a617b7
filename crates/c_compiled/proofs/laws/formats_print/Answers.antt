use Rattle.c_compiled.proofs.FormattedPrinting.{formats_print as law}
use Rattle.c_compiled.proofs.laws.formats_print.Goals as goal

pub returns : goal.returns
returns c = law
