use Rattle.std.proofs.Common.{◌-◌, get_or, pos, Some, sym, ap, ◌∙◌, rules, ℤ, w64}
use mir.Val.{SFits}
use Rattle.std.proofs.lemmas.Int.{to_z-of_z}
use Rattle.piet_lang.proofs.StackLemmas.{values_at, values_past}
use Rattle.piet_lang.proofs.slots.value_at.Goals as goal

pub returns-then-depth-len : goal.returns-then-depth-len
returns-then-depth-len c =
    let x = get_or c.args.slots.now (c.args.len - 1 - c.args.depth) (pos 0) in
    let f : SFits w64 x = search rules in
    ap (λ (z : ℤ). Some z) (to_z-of_z w64 x f) ∙ sym (values_at c.args.slots.now c.args.len c.args.depth (pos 0) c.requires c.if-depth-len.true)

pub returns-else-depth-len : goal.returns-else-depth-len
returns-else-depth-len c = sym (values_past c.args.slots.now c.args.len c.args.depth c.requires c.if-depth-len.false)
