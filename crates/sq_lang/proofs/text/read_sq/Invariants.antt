use Rattle.std.proofs.Common.{length, ◌+◌, ◌≤◌}
use Rattle.sq_lang.specs.Text.{BeginsWithCells}
use Rattle.sq_lang.proofs.text.read_sq.Given as goal

abbrev pub invariant-loop-front : goal.invariant-loop-front
invariant-loop-front l = record { read : BeginsWithCells l.text l.program l.left; few : length l.program + length l.left ≤ length l.text }

abbrev pub decreases-loop-front : goal.decreases-loop-front
decreases-loop-front l = length l.left
