use Rattle.c_fewer_names.proofs.Names.{formats_of_programs_are_formats as law}
use Rattle.c_fewer_names.proofs.laws.formats_of_programs_are_formats.Goals as goal

pub returns : goal.returns
returns c = law
