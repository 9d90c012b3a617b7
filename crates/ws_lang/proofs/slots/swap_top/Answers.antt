use Rattle.std.proofs.Common.{◌-◌, set, get_or, pos, ap, ◌∙◌, rules, w64, to_z, of_z}
use mir.Val.{SFits}
use Rattle.std.proofs.lemmas.Int.{to_z-of_z}
use Rattle.ws_lang.specs.Stack.{values_of}
use Rattle.ws_lang.proofs.StackLemmas.{swapped_none, swapped_two}
use Rattle.ws_lang.proofs.slots.swap_top.Goals as goal

pub returns-then-len-lt2-clause-swapped : goal.returns-then-len-lt2-clause-swapped
returns-then-len-lt2-clause-swapped c = swapped_none c.args.slots.now c.args.len c.requires c.if-len-lt2.true

pub returns-clause-swapped : goal.returns-clause-swapped
returns-clause-swapped c =
    let slots = c.args.slots.now in
    let len = c.args.len in
    let x = get_or slots (len - 2) (pos 0) in
    let y = get_or slots (len - 1) (pos 0) in
    let f : SFits w64 x = search rules in
    let g : SFits w64 y = search rules in
    ap (λ v. values_of (set (set slots (len - 1) v) (len - 2) (to_z w64 (of_z w64 y))) len) (to_z-of_z w64 x f)
    ∙ (ap (λ v. values_of (set (set slots (len - 1) x) (len - 2) v) len) (to_z-of_z w64 y g) ∙ swapped_two slots len (pos 0) c.requires c.if-len-lt2.false)
