use Rattle.std.proofs.Common.{◌-◌, arith, sym, ◌∙◌, ap, refl}
use Rattle.c_parts.proofs.Piles.{dropped}
use Rattle.c_parts.proofs.values.Values.drop_many.Goals as goal

pub returns : goal.returns
returns c = dropped c.self.inside.base c.args.count (c.len-2.result - c.min-count.result) c.self.inside.items.items c.truncate.new.self.items c.args.self.now c.self.view_is (omega (arith, c.self.inside.items.ok.0)) (omega (arith, c.self.inside.items.ok.0)) c.truncate.ensures.items
