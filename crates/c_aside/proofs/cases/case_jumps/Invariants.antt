use Rattle.c_aside.proofs.CaseLemmas.{JumpsSoFar}
use Rattle.c_aside.proofs.cases.case_jumps.Given as goal

abbrev pub invariant-loop-label : goal.invariant-loop-label
invariant-loop-label l = JumpsSoFar l.fn.out l.out l.labels l.otherwise l.label-index l.left
