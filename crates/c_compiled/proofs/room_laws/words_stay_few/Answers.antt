use Rattle.c_compiled.proofs.RoomStatements.{words_stay_few as law}
use Rattle.c_compiled.proofs.room_laws.words_stay_few.Goals as goal

pub returns : goal.returns
returns c = law
