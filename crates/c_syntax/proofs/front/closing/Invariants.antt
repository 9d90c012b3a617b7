use Rattle.std.proofs.Common.{◌≡◌, drop, false}
use Rattle.c_syntax.specs.Front.{further, closing}
use Rattle.c_syntax.proofs.front.closing.Given as goal

-- the quote is sought behind what was passed
abbrev pub invariant-loop-i : goal.invariant-loop-i
invariant-loop-i l = further l.i (closing l.escaped (drop l.i l.bytes)) ≡ closing false l.bytes
