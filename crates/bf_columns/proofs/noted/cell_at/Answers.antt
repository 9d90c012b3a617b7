use Rattle.bf_columns.proofs.NotedSteps.{nth_read, nth_past}
use Rattle.bf_columns.proofs.noted.cell_at.Goals as goal

pub returns-in-Some : goal.returns-in-Some
returns-in-Some c = nth_read c.args.cells.now c.args.at c.in-Some.cell.now c.in-Some.ensures.lookup.3.0 c.in-Some.ensures.lookup.1

pub returns-in-None : goal.returns-in-None
returns-in-None c = nth_past c.args.cells.now c.args.at c.in-None.ensures.lookup.3
