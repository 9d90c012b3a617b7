use Rattle.std.proofs.Common.{◌+◌, arith, sym, ◌∙◌, ap, refl}
use Rattle.c_parts.proofs.Piles.{kept}
use Rattle.c_parts.proofs.slots.Slots.keep.Goals as goal

pub returns : goal.returns
returns c = kept c.self.inside.base c.args.count (c.self.inside.base + c.min-count.result) c.self.inside.items.items c.truncate.new.self.items c.args.self.now c.self.view_is (omega (arith, c.self.inside.items.ok.0)) (omega (arith, c.self.inside.items.ok.0)) c.truncate.ensures.items
