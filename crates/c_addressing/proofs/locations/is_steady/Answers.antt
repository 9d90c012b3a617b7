use Rattle.std.proofs.Common.{subst}
use Rattle.c_emission.specs.declared.location.Direct.{Direct}
use Rattle.c_emission.specs.declared.location.Direct.TheVariants.{Exactly, Address, Stored}
use Rattle.c_addressing.specs.Places.{IsDirect}
use Rattle.c_addressing.proofs.PlaceLemmas.{steady}
use Rattle.c_addressing.proofs.locations.is_steady.Goals as goal

pub returns-in-Exactly : goal.returns-in-Exactly
returns-in-Exactly c = λ d h. steady (Exactly c.in-Exactly._word) d (subst (λ (v : Direct). IsDirect v d) c.in-Exactly.is h)

pub returns-in-Address : goal.returns-in-Address
returns-in-Address c = λ d h. steady (Address c.in-Address._offset) d (subst (λ (v : Direct). IsDirect v d) c.in-Address.is h)

pub returns-in-Stored : goal.returns-in-Stored
returns-in-Stored c = λ d h. steady (Stored c.in-Stored._place) d (subst (λ (v : Direct). IsDirect v d) c.in-Stored.is h)
