use Rattle.c_formats.proofs.Whole.{formats_are_written as law}
use Rattle.c_formats.proofs.laws.formats_are_written.Goals as goal

pub returns : goal.returns
returns c = law
