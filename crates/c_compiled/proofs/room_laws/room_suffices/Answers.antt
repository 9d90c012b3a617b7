use Rattle.c_compiled.proofs.RoomWhole.{room_suffices as law}
use Rattle.c_compiled.proofs.room_laws.room_suffices.Goals as goal

pub returns : goal.returns
returns c = law
