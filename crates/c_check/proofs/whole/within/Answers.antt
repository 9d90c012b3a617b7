use Rattle.std.proofs.Common.{◌≡◌, ℕ, Bool, [], ◌∷◌, sym, ap, ◌∙◌, subst}
use Rattle.std.specs.Prelude.{Ok, Err}
use Rattle.c_types.specs.declared.fault.TypeFault.TheVariants as fault
use Rattle.c_types.specs.Refusals.{keeping}
use Rattle.c_types.specs.Limits.{weight_of}
use Rattle.c_check.proofs.AnswerLemmas.{light}
use Rattle.c_check.proofs.whole.within.Goals as goal

pub returns-then-is_small : goal.returns-then-is_small
returns-then-is_small c = λ u are.
    let small = sym (c.is_small.ensures u are) ∙ c.if-is_small.true in
    ap Ok (c.get.ensures.value ∙ (c.low.ensures (weight_of u) are.sums.weight ∙ light u small))
    ∙ ap (λ (b : Bool). keeping ((b, fault.TooLarge) ∷ []) (weight_of u)) (sym small)

pub returns-else-is_small : goal.returns-else-is_small
returns-else-is_small c = λ u are.
    let small = sym (c.is_small.ensures u are) ∙ c.if-is_small.false in
    ap (λ (b : Bool). keeping ((b, fault.TooLarge) ∷ []) (weight_of u)) (sym small)
