use Rattle.c_fewer_values.proofs.Elements.{elements_are_places as law}
use Rattle.c_fewer_values.proofs.laws.elements_are_places.Goals as goal

pub returns : goal.returns
returns c = law
