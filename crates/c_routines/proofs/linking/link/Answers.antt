use Rattle.std.proofs.Common.{◌≡◌, ◌≤◌, ◌<◌, ◌^◌, map, sym, subst, IfOk, OnErr, IsOk}
use Rattle.eir_core.specs.Eir.{HasGoodBlocks, size_of}
use Rattle.c_routines.specs.Links.{place_of}
use Rattle.c_routines.proofs.Blocks.{with_blocks, good_blocks, linked_of}
use Rattle.c_routines.proofs.linking.link.Goals as goal

pub program-requires : goal.program-requires
program-requires c =
    subst (λ bs. HasGoodBlocks (with_blocks bs c.args.words.items)) (sym c.in_ok-blocks.ensures) (good_blocks (place_of c.in_ok-places.places) c.args.items.now c.args.words.items)

pub returns : goal.returns
returns c =
    let same = linked_of (place_of c.in_ok-places.places) c.args.items.now c.args.words.items (map (λ b. b.items) c.in_ok-blocks.blocks.items) c.in_ok-places.ensures c.in_ok-blocks.ensures in
    let e = c.program.ensures in
    record {
      program = subst (λ q. IfOk c.program.result (λ p. p ≡ q)) same e.program;
      fits = subst (λ q. IsOk c.program.result → size_of q ≤ 2 ^ 21) same e.fits;
      too_large = λ is. subst (λ q. 2 ^ 21 < size_of q) same (subst (λ r. OnErr r (2 ^ 21 < size_of (with_blocks (map (λ b. b.items) c.in_ok-blocks.blocks.items) c.args.words.items))) is e.refused);
    }
