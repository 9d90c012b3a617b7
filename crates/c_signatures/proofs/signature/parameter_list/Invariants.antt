use Rattle.std.proofs.Common.{◌-◌}
use Rattle.c_signatures.proofs.SignatureLemmas.{Listed}
use Rattle.c_signatures.proofs.signature.parameter_list.Given as goal

abbrev pub invariant-loop-k : goal.invariant-loop-k
invariant-loop-k l = Listed l.fn.types l.types l.parameters l.list (l.count - l.k)
