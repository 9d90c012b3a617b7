use Rattle.std.proofs.Common.{◌-◌, get_or, pos, Some, sym, ap, ◌∙◌, rules, ℤ, w64, to_z, of_z}
use mir.Val.{SFits}
use Rattle.std.proofs.lemmas.Int.{to_z-of_z}
use Rattle.piet_lang.proofs.StackLemmas.{pair_none, pair_some}
use Rattle.piet_lang.proofs.slots.two_values.Goals as goal

pub returns-then-len-lt2 : goal.returns-then-len-lt2
returns-then-len-lt2 c = sym (pair_none c.args.slots.now c.args.len c.requires c.if-len-lt2.true)

pub returns : goal.returns
returns c =
    let x = get_or c.args.slots.now (c.args.len - 2) (pos 0) in
    let y = get_or c.args.slots.now (c.args.len - 1) (pos 0) in
    let f : SFits w64 x = search rules in
    let g : SFits w64 y = search rules in
    ap (λ (z : ℤ). Some (z, to_z w64 (of_z w64 y))) (to_z-of_z w64 x f)
    ∙ (ap (λ (z : ℤ). Some (x, z)) (to_z-of_z w64 y g) ∙ sym (pair_some c.args.slots.now c.args.len (pos 0) c.requires c.if-len-lt2.false))
