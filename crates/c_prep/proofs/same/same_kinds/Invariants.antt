use Rattle.std.proofs.Common.{◌≡◌, length}
use Rattle.c_prep.specs.Macros.{kinds, same_kinds}
use Rattle.c_prep.proofs.same.same_kinds.Given as goal

-- the tokens that were compared are the same
abbrev pub invariant-loop-left : goal.invariant-loop-left
invariant-loop-left l = same_kinds (kinds l.left) (kinds l.right) ≡ same_kinds (kinds l.a) (kinds l.b)

abbrev pub decreases-loop-left : goal.decreases-loop-left
decreases-loop-left l = length l.left
