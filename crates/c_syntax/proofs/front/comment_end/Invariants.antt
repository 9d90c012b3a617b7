use Rattle.std.proofs.Common.{◌≡◌, drop, false}
use Rattle.c_syntax.specs.Front.{further, comment_end}
use Rattle.c_syntax.proofs.front.comment_end.Given as goal

-- the end is sought behind what was passed
abbrev pub invariant-loop-i : goal.invariant-loop-i
invariant-loop-i l = further l.i (comment_end l.after_star (drop l.i l.bytes)) ≡ comment_end false l.bytes
