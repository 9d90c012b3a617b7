use Rattle.c_compiled.proofs.Helpers.{found_helpers_are_helpers as law}
use Rattle.c_compiled.proofs.laws.found_helpers_are_helpers.Goals as goal

pub returns : goal.returns
returns c = law
