use Rattle.std.proofs.Common.{take}
use Rattle.c_aside.specs.Aside.{Appends}
use Rattle.c_aside.proofs.aside.append.Given as goal

abbrev pub invariant-loop-instruction : goal.invariant-loop-instruction
invariant-loop-instruction l = Appends l.fn.out l.out (take l.instruction-index l.instruction-items)
