use Rattle.c_fitting.proofs.Blocked.{units_declare_in_blocks as law}
use Rattle.c_fitting.proofs.laws.units_declare_in_blocks.Goals as goal

pub returns : goal.returns
returns c = law
