use Rattle.c_spelled_programs.proofs.SourceProgramsWhole.{texts_are_programs as law}
use Rattle.c_spelled_programs.proofs.laws.texts_are_programs.Goals as goal

pub returns : goal.returns
returns c = law
