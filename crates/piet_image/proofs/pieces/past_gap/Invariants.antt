use Rattle.piet_image.proofs.PieceLemmas.{IsGap}
use Rattle.piet_image.proofs.pieces.past_gap.Given as goal

abbrev pub invariant-loop-i : goal.invariant-loop-i
invariant-loop-i l = IsGap l.bytes l.i l.open
