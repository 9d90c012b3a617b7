use Rattle.ws_back.proofs.Counted.{counted}
use Rattle.ws_back.proofs.handing.digit_count.Goals as goal

pub returns : goal.returns
returns c = counted c.args.n c.ranges.n.fits
