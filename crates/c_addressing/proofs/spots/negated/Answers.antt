use Rattle.std.proofs.Common.{subst}
use Rattle.std.specs.Prelude.{Option}
use Rattle.c_addressing.specs.declared.spots.Known.{Known}
use Rattle.c_addressing.specs.Here.{IsKnown}
use Rattle.c_addressing.proofs.DirectLemmas.{word_less, address_less, stored_less, none_less}
use Rattle.c_addressing.proofs.spots.negated.Goals as goal

pub returns-in-Exactly : goal.returns-in-Exactly
returns-in-Exactly c = λ l count d h. word_less c.in-Some.found c.in-Exactly.word c.opposite.result l count d c.in-Exactly.is (subst (λ (o : Option Known). IsKnown l count o d) c.in-Some.is h) c.opposite.ensures

pub returns-in-Address : goal.returns-in-Address
returns-in-Address c = λ l count d h. address_less c.in-Some.found c.in-Address._offset l count d c.in-Address.is (subst (λ (o : Option Known). IsKnown l count o d) c.in-Some.is h)

pub returns-in-Stored : goal.returns-in-Stored
returns-in-Stored c = λ l count d h. stored_less c.in-Some.found c.in-Stored._place l count d c.in-Stored.is (subst (λ (o : Option Known). IsKnown l count o d) c.in-Some.is h)

pub returns-in-None : goal.returns-in-None
returns-in-None c = λ l count d h. none_less l count d (subst (λ (o : Option Known). IsKnown l count o d) c.in-None.is h)
