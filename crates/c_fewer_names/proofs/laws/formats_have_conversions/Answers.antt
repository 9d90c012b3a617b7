use Rattle.c_fewer_names.proofs.FewerKnownStatements.{formats_have_conversions as law}
use Rattle.c_fewer_names.proofs.laws.formats_have_conversions.Goals as goal

pub returns : goal.returns
returns c = law
