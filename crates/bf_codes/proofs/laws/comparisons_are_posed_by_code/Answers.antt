use Rattle.bf_codes.proofs.Decoded.{poses}
use Rattle.bf_codes.proofs.laws.comparisons_are_posed_by_code.Goals as goal

pub returns : goal.returns
returns c = poses
