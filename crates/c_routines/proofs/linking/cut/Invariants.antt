use Rattle.std.proofs.Common.{◌≡◌, ◌++◌, drop, map}
use Rattle.c_routines.specs.Cuts.{blocks_of, cut_items}
use Rattle.c_routines.specs.Links.{place_of}
use Rattle.c_routines.proofs.Blocks.{glued}
use Rattle.c_routines.proofs.linking.cut.Given as goal

abbrev pub invariant-loop-item : goal.invariant-loop-item
invariant-loop-item l = map (λ b. b.items) l.blocks.items ++ glued l.block.items (cut_items (place_of l.places) (drop l.item-index l.items)) ≡ blocks_of (cut_items (place_of l.places) l.items)
