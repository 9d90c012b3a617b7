use Rattle.c_laid.proofs.RoomsObjects.{objects_are_few as law}
use Rattle.c_laid.proofs.laws.objects_are_few.Goals as goal

pub returns : goal.returns
returns c = law
