use Rattle.c_rule.proofs.Units.{reads_behind_units as law}
use Rattle.c_rule.proofs.laws.reads_behind_units.Goals as goal

pub returns : goal.returns
returns c = law
