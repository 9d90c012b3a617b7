use Rattle.std.proofs.Common.{◌≡◌, ℕ, ◌+◌, ◌-◌, ◌*◌, ◌<◌, ◌≤◌, length, Some, slice_get}
use Rattle.piet_image.specs.declared.place.Place.{Place}
use Rattle.piet_lang.specs.Chart.{Filling}
use Rattle.piet_lang.specs.Blocks.{ExploredAt}
use Rattle.piet_lang.specs.Free.{free_codels}
use Rattle.piet_lang.proofs.fill.fill.Given as goal

abbrev pub invariant-loop-done : goal.invariant-loop-done
invariant-loop-done l = record {
  count : length l.numbers ≡ l.image.height * l.image.width;
  filled : Filling l.image l.paint.hue l.paint.light l.fn.start l.paint.number l.fn.numbers l.numbers l.members.items;
  explored : (k : ℕ) (r : Place) → k < l.done → slice_get l.members.items k ≡ Some r → ExploredAt l.image l.paint.hue l.paint.light l.numbers r;
  few : free_codels l.image l.numbers + length l.members.items ≤ l.image.height * l.image.width;
  within : l.done ≤ length l.members.items;
}

abbrev pub decreases-loop-done : goal.decreases-loop-done
decreases-loop-done l = free_codels l.image l.numbers + length l.members.items - l.done
