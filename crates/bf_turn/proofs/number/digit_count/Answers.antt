use Rattle.bf_turn.proofs.Counted.{counted}
use Rattle.bf_turn.proofs.number.digit_count.Goals as goal

pub returns : goal.returns
returns c = counted c.args.n c.ranges.n.fits
