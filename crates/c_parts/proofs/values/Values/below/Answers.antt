use Rattle.std.proofs.Common.{arith, ◌∙◌}
use Rattle.c_parts.proofs.Piles.{read_below}
use Rattle.c_parts.proofs.values.Values.below.Goals as goal

pub returns : goal.returns
returns c = read_below c.self.inside.base c.args.count c.len-2.result c.self.inside.items.items _ c.args.self.now c.self.view_is (omega (arith, c.self.inside.items.ok.0)) (c.len-2.ensures ∙ c.self.inside.items.ok.0) c.index.ensures
