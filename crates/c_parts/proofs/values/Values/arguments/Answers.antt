use Rattle.std.proofs.Common.{◌-◌, drop, arith, sym, ◌∙◌, ap, refl}
use Rattle.std.proofs.lemmas.List.{take_rest}
use Rattle.c_parts.proofs.Piles.{told_arguments}
use Rattle.c_parts.proofs.values.Values.arguments.Goals as goal

pub returns : goal.returns
returns c =
    let s = c.len-2.result - c.min-count.result in
    let rest = take_rest c.deref.result.now s in
    told_arguments c.self.inside.base c.args.count s c.self.inside.items.items _ c.args.self.now c.self.view_is (omega (arith, c.self.inside.items.ok.0)) (omega (arith, c.self.inside.items.ok.0)) (rest ∙ ap (drop s) c.deref.ensures.value)
