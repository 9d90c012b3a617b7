use Rattle.c_types.proofs.RoomLemmas.{room_is_small}
use Rattle.c_types.proofs.laws.room_is_small.Goals as goal

pub returns : goal.returns
returns c = room_is_small
