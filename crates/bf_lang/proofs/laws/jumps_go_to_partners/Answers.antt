use Rattle.bf_lang.proofs.Jumps.{jumps}
use Rattle.bf_lang.proofs.laws.jumps_go_to_partners.Goals as goal

pub returns : goal.returns
returns c = λ code i j close. jumps code i j close
