use Rattle.std.proofs.Common.{◌-◌, arith}
use Rattle.c_parts.proofs.Piles.{turned, put_back}
use Rattle.c_parts.proofs.values.Values.turn.Goals as goal

pub returns : goal.returns
returns c =
    let s = c.len-2.result - c.min-count.result in
    turned c.self.inside.base c.args.count s c.self.inside.items.items _ c.args.self.now c.self.view_is (omega (arith, c.self.inside.items.ok.0)) (omega (arith, c.self.inside.items.ok.0))
    (put_back s c.self.inside.items.len c.self.inside.items.items c.deref_mut.result.now c.reverse.new.self c.deref_mut.ensures.value c.self.inside.items.ok.0 (omega (arith, c.self.inside.items.ok.0)) c.reverse.ensures.after)
