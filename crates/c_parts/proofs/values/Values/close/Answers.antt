use Rattle.std.proofs.Common.{◌<◌, length, arith}
use Rattle.c_parts.proofs.Piles.{over, some_mine}
use Rattle.c_parts.proofs.values.Values.close.Goals as goal

pub returns : goal.returns
returns c =
    over c.self.inside.base c.min-self-inside.result c.args.base c.self.inside.items.items c.truncate.new.self.items c.args.v c.args.self.now c.self.view_is
    (some_mine c.self.inside.base c.self.inside.items.items c.args.self.now c.self.view_is c.requires) (omega (arith, c.min-self-inside.ensures)) c.truncate.ensures.items
