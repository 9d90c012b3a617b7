use Rattle.std.proofs.Common.{◌≡◌, false, ap, ◌∙◌}
use Rattle.std.specs.FinMap as map
use Rattle.bf_lang.specs.Cells.{cells_from}
use Rattle.bf_lang.proofs.TapeCells.{tape_none}
use Rattle.bf_lang.proofs.state.BfState.start.Goals as goal

pub returns : goal.returns
returns c =
    let none : cells_from 0 c.grow.new.cells.items ≡ map.empty = c.in_ok-grow.ensures.same ∙ (ap (cells_from 0) c.new-cells.ensures.items ∙ tape_none) in
    λ code i. record { place = 0; head = 0; cells = none i; fell = false }
