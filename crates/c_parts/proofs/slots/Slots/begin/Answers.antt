use Rattle.std.proofs.Common.{arith, sym, ◌∙◌, ap, refl}
use Rattle.c_parts.proofs.Piles.{slots_begun}
use Rattle.c_parts.proofs.slots.Slots.begin.Goals as goal

pub returns-clause-slots : goal.returns-clause-slots
returns-clause-slots c = slots_begun c.self.inside.base c.len-self-inside.result c.self.inside.items.items c.args.self.now c.self.view_is (c.len-self-inside.ensures ∙ c.self.inside.items.ok.0)
