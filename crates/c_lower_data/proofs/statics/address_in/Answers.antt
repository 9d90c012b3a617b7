use Rattle.std.proofs.Common.{subst}
use Rattle.c_emission.specs.declared.location.Location.{Location}
use Rattle.c_addressing.specs.Places.{IsLocation}
use Rattle.c_lower_data.proofs.StaticLemmas.{fixed_told, framed_told}
use Rattle.c_lower_data.proofs.statics.address_in.Goals as goal

pub returns-in-Fixed : goal.returns-in-Fixed
returns-in-Fixed c = λ l h. fixed_told c.in-Fixed.address l (subst (λ (p : Location). IsLocation p l) c.in-Fixed.is h)

pub returns-in-Framed : goal.returns-in-Framed
returns-in-Framed c = λ l h. framed_told c.in-Framed.offset l (subst (λ (p : Location). IsLocation p l) c.in-Framed.is h)
