use Rattle.std.proofs.Common.{length, sym, ap, ◌∙◌, rules, w64, to_z, of_z, ℤ}
use mir.Val.{SFits}
use Rattle.std.proofs.lemmas.Int.{to_z-of_z}
use Rattle.std.specs.Prelude.{Option}
use Rattle.ws_lang.specs.Stack.{values_of}
use Rattle.ws_lang.specs.Effect.{on_top, sliding}
use Rattle.ws_lang.proofs.StackLemmas.{length-values}
use Rattle.ws_lang.proofs.decide.slide.Goals as goal

pub returns-in-Some : goal.returns-in-Some
returns-in-Some c =
    let top = c.in-Some.top in
    let f : SFits w64 top = search rules in
    let values = values_of c.args.slots.now c.args.len in
    c.slide_under.ensures
    ∙ ap (λ z. sliding c.args.len z (to_z w64 (of_z w64 top))) (to_z-of_z w64 c.args.count c.ranges.count)
    ∙ (ap (λ z. sliding c.args.len c.args.count z) (to_z-of_z w64 top f)
    ∙ (ap (λ n. sliding n c.args.count top) (sym (length-values c.args.slots.now c.args.len c.requires))
    ∙ ap (λ (o : Option ℤ). on_top o (λ x. sliding (length values) c.args.count x)) c.in-Some.ensures))
