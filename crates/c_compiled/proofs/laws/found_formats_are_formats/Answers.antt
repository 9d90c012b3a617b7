use Rattle.c_compiled.proofs.Formats.{found_formats_are_formats as law}
use Rattle.c_compiled.proofs.laws.found_formats_are_formats.Goals as goal

pub returns : goal.returns
returns c = law
