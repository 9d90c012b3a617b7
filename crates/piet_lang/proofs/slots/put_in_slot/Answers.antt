use Rattle.std.proofs.Common.{◌≡◌, ◌-◌, ◌<◌, ◌∷◌, length, ap, ◌∙◌, rules, arith, w64, to_z, of_z}
use Rattle.std.proofs.lemmas.Int.{to_z-of_z}
use Rattle.piet_lang.specs.Stack.{values_of}
use Rattle.piet_lang.proofs.StackLemmas.{values_put, values_drop}
use Rattle.piet_lang.proofs.slots.put_in_slot.Goals as goal

pub returns-clause-done : goal.returns-clause-done
returns-clause-done c = λ _.
    let slots = c.args.slots.now in
    let place = c.saturating_sub-place.result in
    let rest : place ≡ c.args.len.now - c.args.count = search rules in
    let there : place < length slots = omega arith in
    values_put slots place (to_z w64 (of_z w64 c.args.value)) there
    ∙ (ap (λ x. x ∷ values_of slots place) (to_z-of_z w64 c.args.value c.ranges.value)
    ∙ ap (λ xs. c.args.value ∷ xs) (ap (values_of slots) rest ∙ values_drop slots c.args.len.now c.args.count c.requires))
