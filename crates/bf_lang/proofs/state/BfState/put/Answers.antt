use Rattle.std.proofs.Common.{◌+◌, ap, ◌∙◌, sym}
use Rattle.bf_lang.specs.Step.{Config, with_here}
use Rattle.bf_lang.proofs.TapeCells.{tape_set}
use Rattle.bf_lang.proofs.state.BfState.put.Goals as goal

pub returns : goal.returns
returns c =
    let s = c.self.inside in
    let value = c.args.value in
    (λ i. record { place = s.place + 1; head = s.head; cells = sym (tape_set s.cells.items s.head value c.self.invariant) i; fell = s.fell })
    ∙ ap (λ (t : Config). with_here t value) c.self.view_is
