-- Programs with fewer operators cost at most what there is room for.
use Rattle.std.specs.Prelude.{◌≤◌}
use Rattle.c_syntax.specs.Plain.{CUnit}
use Rattle.c_types.specs.Room.{room_of}
use Rattle.c_helpers.specs.Cost.{unit_cost}
use Rattle.c_helpers.specs.Simple.{desugared}
use Rattle.c_programs.specs.Programs.{IsProgram}

abbrev pub CostsFitRooms : Type 0
CostsFitRooms = (u : CUnit) → IsProgram u → unit_cost (desugared u) ≤ room_of u
