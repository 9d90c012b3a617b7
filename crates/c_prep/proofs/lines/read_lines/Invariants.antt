use Rattle.std.proofs.Common.{length}
use Rattle.c_prep.proofs.Reading.{Reading}
use Rattle.c_prep.proofs.lines.read_lines.Given as goal

-- what was given and what the lines that are left stand for is all
abbrev pub invariant-loop-rest : goal.invariant-loop-rest
invariant-loop-rest l = Reading l.raws l.context l.out l.rest

abbrev pub decreases-loop-rest : goal.decreases-loop-rest
decreases-loop-rest l = length l.rest
