use Rattle.std.proofs.Common.{◌≡◌, ◌+◌, ◌≤◌, ◌<◌, ◌^◌, length, map, sym, ap, ◌∙◌, subst, arith}
use Rattle.std.proofs.lemmas.List.{length-map}
use Rattle.eir_core.specs.Eir.{IsEir}
use Rattle.c_place.proofs.CutLemmas.{cut_length}
use Rattle.c_place.proofs.Sizes.{cut_is_eir}
use Rattle.c_place.proofs.cutting.program.Goals as goal

pub new-requires : goal.new-requires
new-requires c =
    let count = ap length c.in_ok-blocks.ensures ∙ cut_length c.args.ops.now c.requires.closed in
    omega (arith, sym (length-map c.in_ok-blocks.blocks.items _) ∙ count, c.in_ok-blocks.blocks.ok.0, c.requires.small)

pub unreachable-requires : goal.unreachable-requires
unreachable-requires c =
    let is = cut_is_eir c.args.ops.now c.args.words.items c.requires.closed (omega (arith, c.requires.small, c.args.words.ok.0)) in
    let is_here = subst (λ bs. IsEir (record { blocks = bs; words = c.args.words.items; start = 0 })) (sym c.in_ok-blocks.ensures) is in
    absurd (cc (c.in-Err.ensures.ok.1 is_here))
