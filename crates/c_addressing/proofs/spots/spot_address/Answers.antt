use Rattle.std.proofs.Common.{subst}
use Rattle.std.specs.Prelude.{Option}
use Rattle.c_addressing.specs.declared.spots.Spot.{Spot}
use Rattle.c_addressing.specs.Here.{IsSpot}
use Rattle.c_addressing.proofs.DirectLemmas.{spot_some, spot_none}
use Rattle.c_addressing.proofs.spots.spot_address.Goals as goal

pub returns-in-Some : goal.returns-in-Some
returns-in-Some c = λ l count p h. spot_some c.in-Some.found c.address_of.result l count p (subst (λ (o : Option Spot). IsSpot l count o p) c.in-Some.is h) c.address_of.ensures

pub returns-in-None : goal.returns-in-None
returns-in-None c = λ l count p h. spot_none l count p (subst (λ (o : Option Spot). IsSpot l count o p) c.in-None.is h)
