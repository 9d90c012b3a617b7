use Rattle.c_laid.proofs.Sizes.{small_programs_have_room as law}
use Rattle.c_laid.proofs.laws.small_programs_have_room.Goals as goal

pub returns : goal.returns
returns c = law
