use Rattle.c_compiled.proofs.HelperCostsStatements.{bodies_call_by_kinds as law}
use Rattle.c_compiled.proofs.room_laws.bodies_call_by_kinds.Goals as goal

pub returns : goal.returns
returns c = law
