use Rattle.std.proofs.Common.{◌≡◌, ℕ, ◌≤◌, drop}
use Rattle.c_routines.specs.Cuts.{place_in, block_at}
use Rattle.c_routines.specs.Links.{place_or}
use Rattle.c_routines.proofs.linking.places.Given as goal

abbrev pub invariant-loop-item : goal.invariant-loop-item
invariant-loop-item l = (l.block ≤ l.item-index) × ((name : ℕ) → place_or l.places name (place_in l.block l.within (drop l.item-index l.items) name) ≡ block_at l.items name)
