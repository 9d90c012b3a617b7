use Rattle.c_parts.proofs.Leaving.{dropped_top}
use Rattle.c_parts.proofs.opened.Opened.drop_top.Goals as goal

pub returns : goal.returns
returns c = dropped_top c.args.self.now c.pop.new.self c.pop.result c.pop.ensures
