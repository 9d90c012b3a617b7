use Rattle.std.proofs.Common.{subst}
use Rattle.std.specs.Prelude.{Option}
use Rattle.c_syntax.specs.View.{expr_of}
use Rattle.c_eval.specs.Environment.{type_in}
use Rattle.c_addressing.specs.declared.spots.Spot.{Spot}
use Rattle.c_addressing.specs.Classes.{held_by}
use Rattle.c_addressing.specs.Here.{IsSpot}
use Rattle.c_addressing.proofs.DirectLemmas.{worth, worth_none}
use Rattle.c_addressing.proofs.spots.place_value.Goals as goal

pub returns-in-Some-clause-value : goal.returns-in-Some-clause-value
returns-in-Some-clause-value c = λ s l count p h spot.
    let class = c.in_ok-class.class in
    worth c.in-Some.found l count p (type_in s (expr_of c.args.e.now)) class c.with_literals.result (c.in_ok-class.ensures.class s h) (subst (λ (o : Option Spot). IsSpot l count o p) c.in-Some.is spot)
    (λ q at behind. c.with_literals.ensures l count (held_by class q) (c.held.ensures q at) behind)

pub returns-in-None-clause-value : goal.returns-in-None-clause-value
returns-in-None-clause-value c = λ s l count p h spot. worth_none l count p (type_in s (expr_of c.args.e.now)) (subst (λ (o : Option Spot). IsSpot l count o p) c.in-None.is spot)
