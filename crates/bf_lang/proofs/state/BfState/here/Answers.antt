use Rattle.std.proofs.Common.{sym, ap, ◌∙◌}
use Rattle.std.proofs.lemmas.List.{get_or_default}
use Rattle.bf_lang.specs.Step.{here}
use Rattle.bf_lang.proofs.TapeCells.{cell_tape}
use Rattle.bf_lang.proofs.state.BfState.here.Goals as goal

pub returns : goal.returns
returns c =
    let cells = c.self.inside.cells.items in
    let head = c.self.inside.head in
    c.index.ensures ∙ (get_or_default cells head c.index.result.now 0 c.self.invariant ∙ (sym (cell_tape cells head) ∙ ap here c.self.view_is))
