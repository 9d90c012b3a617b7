use Rattle.std.proofs.Common.{arith}
use Rattle.c_store.specs.declared.value.Value.TheVariants.{Missing}
use Rattle.c_parts.proofs.Piles.{emptied}
use Rattle.c_parts.proofs.slots.Slots.add_empty.Goals as goal

pub returns-clause-ok : goal.returns-clause-ok
returns-clause-ok c = emptied c.self.inside.base c.args.count c.in-Some.length c.self.inside.items.len c.self.inside.items.items c.resize.new.self.items Missing c.args.self.now c.self.view_is (omega (arith, c.self.inside.items.ok.0)) c.self.inside.items.ok.0 (omega (arith, c.in-Some.ensures)) c.in_ok-resize.ensures.items
