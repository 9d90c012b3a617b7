use Rattle.c_jumps.proofs.AddLemmas.{if_map}
use Rattle.c_jumps.proofs.choices.other_side.Goals as goal

pub returns : goal.returns
returns c = if_map c.reserve.result (λ jump r. record { distance = c.behind-distance.result; behind = c.behind-distance.ensures; filled = c.fill.new.self; fills = c.fill.ensures; reserves = r }) c.reserve.ensures
