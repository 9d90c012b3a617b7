use Rattle.bf_codes.proofs.Decoded.{decided}
use Rattle.bf_codes.proofs.laws.jumps_are_decided.Goals as goal

pub returns : goal.returns
returns c = decided
