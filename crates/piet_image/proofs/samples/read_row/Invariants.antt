use Rattle.std.proofs.Common.{◌≡◌, ℕ, ◌*◌, ◌<◌, List, length, slice_index}
use Rattle.piet_image.specs.Reading.{IsAt, HasSamples, AddsRow}
use Rattle.piet_image.proofs.samples.read_row.Given as goal

abbrev pub invariant-loop-x : goal.invariant-loop-x
invariant-loop-x l = record {
  read : (text : List ℕ) (k : ℕ) → length text ≡ l.size → IsAt text k l.fn.left → HasSamples text k (3 * (l._x * l.codel)) l.rest;
  row : (text : List ℕ) (k : ℕ) → length text ≡ l.size → IsAt text k l.fn.left → AddsRow text k l.codel l.fn.codes.items l.codes.items l._x;
  small : (j : ℕ) → slice_index l.codes.items j < 20;
}
