use Rattle.piet_lane.specs.Lanes.{lanes_of}
use Rattle.piet_lane.proofs.Lanes.{runs_lanes}
use Rattle.piet_lane.proofs.Plains.{plain_lanes}
use Rattle.piet_lane.proofs.laws.boards_run_their_lanes.Goals as goal

pub returns : goal.returns
returns c = λ lanes reach start fits near atlas. runs_lanes (lanes_of lanes) reach start fits near (plain_lanes lanes) atlas
