use Rattle.std.proofs.Common.{arith, sym, ◌∙◌, ap, refl}
use Rattle.c_parts.proofs.Piles.{begun}
use Rattle.c_parts.proofs.values.Values.open.Goals as goal

pub returns-clause-values : goal.returns-clause-values
returns-clause-values c = begun c.self.inside.base c.len-self-inside.result c.self.inside.items.items c.args.self.now c.self.view_is (c.len-self-inside.ensures ∙ c.self.inside.items.ok.0)
