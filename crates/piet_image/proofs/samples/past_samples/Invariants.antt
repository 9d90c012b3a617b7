use Rattle.std.proofs.Common.{◌≡◌, ℕ, List, length}
use Rattle.piet_image.specs.Reading.{IsAt, HasSamples}
use Rattle.piet_image.proofs.samples.past_samples.Given as goal

abbrev pub invariant-loop-i : goal.invariant-loop-i
invariant-loop-i l = (text : List ℕ) (k : ℕ) → length text ≡ l.size → IsAt text k l.left → HasSamples text k l._i l.rest
