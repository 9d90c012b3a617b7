use Rattle.c_fewer_names.proofs.Names.{names_of_programs_are_known as law}
use Rattle.c_fewer_names.proofs.laws.names_of_programs_are_known.Goals as goal

pub returns : goal.returns
returns c = law
