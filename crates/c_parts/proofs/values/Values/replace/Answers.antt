use Rattle.std.proofs.Common.{◌-◌, ◌<◌, length, arith, refl}
use Rattle.c_parts.proofs.Piles.{replaced, some_mine}
use Rattle.c_parts.proofs.values.Values.replace.Goals as goal

pub returns : goal.returns
returns c =
    let some : c.self.inside.base < length c.self.inside.items.items = some_mine c.self.inside.base c.self.inside.items.items c.args.self.now c.self.view_is c.requires in
    replaced c.self.inside.base (c.len-index.result - 1) c.self.inside.items.items _ c.args.v c.args.self.now c.self.view_is (omega (arith, c.self.inside.items.ok.0)) (omega (arith, c.self.inside.items.ok.0)) refl
