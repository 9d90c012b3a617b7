-- The commands of lanes neither turn nor toggle, and read or write no numbers.
use Rattle.std.proofs.Common.{◌≡◌, ℕ, zero, suc, true, List, [], ◌∷◌, refl}
use Rattle.piet_lane.specs.declared.command.Command.{Command}
use Rattle.piet_lane.specs.declared.command.Command.TheVariants.{Push}
use Rattle.piet_lane.specs.Board.{lane_at}
use Rattle.piet_lane.specs.Lanes.{act_of_command, acts_of, lanes_of}
use Rattle.piet_lane.specs.Runs.{plain, Plain}

plain_command : (command : Command) → plain (act_of_command command) ≡ true
plain_command Push = refl
plain_command _ = refl

plain_acts : (commands : List Command) → Plain (acts_of commands)
plain_acts [] = tt
plain_acts (command ∷ commands) = (plain_command command, plain_acts commands)

pub plain_lanes : (lanes : List (List Command)) (i : ℕ) → Plain (lane_at (lanes_of lanes) i)
plain_lanes [] i = tt
plain_lanes (lane ∷ lanes) zero = plain_acts lane
plain_lanes (lane ∷ lanes) (suc i) = plain_lanes lanes i
