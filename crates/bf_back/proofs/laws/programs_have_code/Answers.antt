use Rattle.bf_back.specs.Code.{whole_code}
use Rattle.bf_back.proofs.Translated.{stands_for}
use Rattle.bf_back.proofs.Closed.{whole_is}
use Rattle.bf_back.proofs.Short.{whole_short}
use Rattle.bf_back.proofs.laws.programs_have_code.Goals as goal

pub returns : goal.returns
returns c = λ p sound small. let w = whole_is p sound small in record { short = whole_short p small; whole = w; stands = stands_for p (whole_code p) sound small w }
