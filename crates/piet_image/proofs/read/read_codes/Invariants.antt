use Rattle.std.proofs.Common.{◌≡◌, ℕ, ◌*◌, ◌<◌, List, length, slice_index}
use Rattle.piet_image.specs.Reading.{IsAt, HasSamples, HasRows}
use Rattle.piet_image.proofs.read.read_codes.Given as goal

abbrev pub invariant-loop-y : goal.invariant-loop-y
invariant-loop-y l = record {
  read : (text : List ℕ) → length text ≡ l.size → IsAt text 4 l.fn.left → HasSamples text 4 (3 * ((l._y * l.codel) * (l.columns * l.codel))) l.rest;
  rows : (text : List ℕ) → length text ≡ l.size → IsAt text 4 l.fn.left → HasRows text l.codel l.columns l.codes.items l._y;
  small : (j : ℕ) → slice_index l.codes.items j < 20;
}
