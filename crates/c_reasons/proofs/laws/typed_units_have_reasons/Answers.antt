use Rattle.c_reasons.proofs.Stated.{units_have_reasons}
use Rattle.c_reasons.proofs.laws.typed_units_have_reasons.Goals as goal

pub returns : goal.returns
returns c = units_have_reasons
