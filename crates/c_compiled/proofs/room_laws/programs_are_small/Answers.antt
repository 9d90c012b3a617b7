use Rattle.c_compiled.proofs.RoomWhole.{programs_are_small as law}
use Rattle.c_compiled.proofs.room_laws.programs_are_small.Goals as goal

pub returns : goal.returns
returns c = law
