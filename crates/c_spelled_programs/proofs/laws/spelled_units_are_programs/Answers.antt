use Rattle.c_spelled_programs.proofs.Whole.{spelled_units_are_programs as law}
use Rattle.c_spelled_programs.proofs.laws.spelled_units_are_programs.Goals as goal

pub returns : goal.returns
returns c = law
