use Rattle.std.proofs.Common.{◌≡◌, ◌++◌, map, drop}
use Rattle.c_syntax.specs.View.{item_of}
use Rattle.c_tree_names.specs.Added.{texts}
use Rattle.c_kept.specs.Kept.{stays}
use Rattle.c_kept.proofs.keep.flags.Given as goal

-- the flags so far, and those of the externals that are left
abbrev pub invariant-loop-item : goal.invariant-loop-item
invariant-loop-item l = l.all.items ++ map (λ i. stays (texts l.known.keys) (item_of i)) (drop l.item-index l.items) ≡ map (λ i. stays (texts l.known.keys) (item_of i)) l.items
