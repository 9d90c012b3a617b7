use Rattle.std.proofs.Common.{◌≡◌, ◌+◌, ap, ◌∙◌}
use Rattle.bf_word.specs.Steps.{lift_0, lift_1, lift_2, lift_past, count_code}
use Rattle.bf_tape.proofs.Added.{done}
use Rattle.bf_word.proofs.Calls.{lift_adds}
use Rattle.bf_word.proofs.counter.lift_by.Goals as goal

pub returns-clause-effect : goal.returns-clause-effect
returns-clause-effect c =
    let p = c.args.f.now in
    let w = c.args.counter in
    let g = c.args.word in
    let high : c.in_ok-high.high.items ≡ lift_2 = c.in_ok-high.ensures in
    let mid : c.in_ok-mid.mid.items ≡ lift_1 = c.in_ok-mid.ensures ∙ ap lift_past (c.deref.ensures.value ∙ high) in
    let low : c.in_ok-low.low.items ≡ lift_0 = c.in_ok-low.ensures ∙ ap lift_past (c.deref-2.ensures.value ∙ mid) in
    done c.count.result p c.count.new.f (count_code p.cell w g c.deref-3.result.now c.deref-4.result.now c.deref-5.result.now) (count_code p.cell w g lift_0 lift_1 lift_2) (g + 2) c.count.ensures.ok
    (λ i. count_code p.cell w g ((c.deref-3.ensures.value ∙ low) i) ((c.deref-4.ensures.value ∙ mid) i) ((c.deref-5.ensures.value ∙ high) i))
    (lift_adds p w g c.count.ensures.below c.requires.counter c.requires.word c.requires.apart)
