use Rattle.c_compiled.proofs.Moments.{moments_are_bounded}
use Rattle.c_compiled.proofs.laws.built_moments_are_bounded.Goals as goal

pub returns : goal.returns
returns g c = moments_are_bounded
