use Rattle.std.proofs.Common.{arith, sym, ◌∙◌, ap, refl}
use Rattle.c_parts.proofs.Piles.{slots_over}
use Rattle.c_parts.proofs.slots.Slots.close.Goals as goal

pub returns : goal.returns
returns c = slots_over c.self.inside.base c.min-self-inside.result c.args.base c.self.inside.items.items c.truncate.new.self.items c.args.self.now c.self.view_is (omega (arith, c.self.inside.items.ok.0)) (omega (arith, c.min-self-inside.ensures)) c.truncate.ensures.items
