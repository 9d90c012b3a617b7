-- A program's size is at most what the program costs, and that at most its room.
use Rattle.std.proofs.Common.{ℕ, ◌^◌, ◌<◌, ◌≤◌, arith}
use Rattle.eir_core.specs.Eir.{size_of}
use Rattle.c_types.specs.Room.{room_of}
use Rattle.c_types.proofs.RoomLemmas.{room_is_small}
use Rattle.c_helpers.specs.Cost.{unit_cost}
use Rattle.c_helpers.specs.Simple.{desugared}
use Rattle.c_lowered.specs.Whole.{lowered}
use Rattle.c_fitting.proofs.Texts.{texts_stay_in_blocks}
use Rattle.c_fewer_names.proofs.Main.{units_stay_typed}
use Rattle.c_compiled.proofs.DesugaredCostsWhole.{costs_fit_rooms}
use Rattle.c_compiled.proofs.SizesWhole.{sizes_fit_costs}
use Rattle.c_compiled.specs.Suffices.{RoomSuffices, ProgramsAreSmall}

through : (size cost room : ℕ) → size ≤ cost → cost ≤ room → size ≤ room
through size cost room a b = omega (arith, a, b)

below : (size room most : ℕ) → size ≤ room → room < most → size < most
below size room most a b = omega (arith, a, b)

pub room_suffices : RoomSuffices
room_suffices u is blocks =
    let size : size_of (lowered (desugared u)) ≤ unit_cost (desugared u) = sizes_fit_costs (desugared u) (units_stay_typed u is) (texts_stay_in_blocks u blocks) in
    let cost : unit_cost (desugared u) ≤ room_of u = costs_fit_rooms u is in
    through (size_of (lowered (desugared u))) (unit_cost (desugared u)) (room_of u) size cost

pub programs_are_small : ProgramsAreSmall
programs_are_small u is blocks = below (size_of (lowered (desugared u))) (room_of u) (2 ^ 21) (room_suffices u is blocks) (room_is_small u is.small)
