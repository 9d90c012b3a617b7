use Rattle.std.proofs.Common.{subst}
use Rattle.std.specs.Prelude.{Option}
use Rattle.c_emission.specs.declared.location.Direct.{Direct}
use Rattle.c_addressing.specs.Places.{IsDirectOrNone}
use Rattle.c_addressing.proofs.DirectLemmas.{known_some, known_none}
use Rattle.c_addressing.proofs.spots.with_literals.Goals as goal

pub returns-in-Some : goal.returns-in-Some
returns-in-Some c = λ l count d h e. known_some c.in-Some.value c.args.literals l count d (subst (λ (o : Option Direct). IsDirectOrNone o d) c.in-Some.is h) e

pub returns-in-None : goal.returns-in-None
returns-in-None c = λ l count d h e. known_none l count d (subst (λ (o : Option Direct). IsDirectOrNone o d) c.in-None.is h)
