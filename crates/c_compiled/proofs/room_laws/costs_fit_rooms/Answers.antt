use Rattle.c_compiled.proofs.DesugaredCostsWhole.{costs_fit_rooms as law}
use Rattle.c_compiled.proofs.room_laws.costs_fit_rooms.Goals as goal

pub returns : goal.returns
returns c = law
