use Rattle.std.proofs.Common.{◌≡◌, ◌++◌, ap, ◌∙◌}
use Rattle.bf_tape.specs.Code.{goto_code}
use Rattle.bf_word.specs.Steps.{lift_0, lift_1, lift_2, lift_past}
use Rattle.bf_tape.proofs.Added.{done}
use Rattle.bf_word.proofs.Calls.{raise_adds}
use Rattle.bf_word.proofs.counter.lift_once.Goals as goal

pub returns-clause-effect : goal.returns-clause-effect
returns-clause-effect c =
    let p = c.args.f.now in
    let w = c.args.counter in
    let high : c.in_ok-high.high.items ≡ lift_2 = c.in_ok-high.ensures in
    let mid : c.in_ok-mid.mid.items ≡ lift_1 = c.in_ok-mid.ensures ∙ ap lift_past (c.deref.ensures.value ∙ high) in
    let low : c.in_ok-low.low.items ≡ lift_0 = c.in_ok-low.ensures ∙ ap lift_past (c.deref-2.ensures.value ∙ mid) in
    done c.step.result p c.step.new.f (goto_code p.cell w ++ c.deref-3.result.now) (goto_code p.cell w ++ lift_0) w c.step.ensures.ok (ap (λ xs. goto_code p.cell w ++ xs) (c.deref-3.ensures.value ∙ low)) (raise_adds p w c.step.ensures.below c.requires)
