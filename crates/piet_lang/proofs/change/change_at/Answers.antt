use Rattle.std.proofs.Common.{subst, sym, ap, ◌∙◌, rules, w64, to_z, of_z}
use mir.Val.{SFits}
use Rattle.std.proofs.lemmas.Int.{to_z-of_z}
use Rattle.piet_lang.specs.Stack.{values_of}
use Rattle.piet_lang.specs.Change.{ChangeFits, combined}
use Rattle.piet_lang.proofs.StackLemmas.{length-values}
use Rattle.piet_lang.proofs.ChangeLemmas.{two_is, combined_fits}
use Rattle.piet_lang.proofs.change.change_at.Goals as goal

pub returns-in-Some-two_values-clause-change : goal.returns-in-Some-two_values-clause-change
returns-in-Some-two_values-clause-change c =
    let d = c.in_default in
    let second = c.in-Some-two_values.second in
    let top = c.in-Some-two_values.top in
    let f : SFits w64 second = search rules in
    let g : SFits w64 top = search rules in
    c.combine.ensures
    ∙ (ap (λ z. combined c.args.act c.args.len z (to_z w64 (of_z w64 top))) (to_z-of_z w64 second f)
    ∙ (ap (λ z. combined c.args.act c.args.len second z) (to_z-of_z w64 top g)
    ∙ two_is c.args.act (values_of c.args.slots.now c.args.len) c.args.size c.args.fed c.args.len second top c.in-Some-two_values.ensures (length-values c.args.slots.now c.args.len c.requires)
    d.not-Push d.not-Pop d.not-Not d.not-Point d.not-Switch d.not-Duplicate d.not-InNumber d.not-InChar d.not-OutNumber d.not-OutChar))

pub returns-in-Some-two_values-clause-fits : goal.returns-in-Some-two_values-clause-fits
returns-in-Some-two_values-clause-fits c =
    let values = values_of c.args.slots.now c.args.len in
    subst (ChangeFits values) (sym c.combine.ensures) (combined_fits c.args.act values c.args.len _ _ (length-values c.args.slots.now c.args.len c.requires))
