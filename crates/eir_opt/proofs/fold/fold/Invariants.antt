use Rattle.std.proofs.Common.{◌≡◌, ◌++◌, drop}
use Rattle.eir_opt.specs.Folding.{folded_from, folded}
use Rattle.eir_opt.proofs.fold.fold.Given as goal

abbrev pub invariant-loop-old : goal.invariant-loop-old
invariant-loop-old l = l.made.items ++ folded_from l.known (drop l.old-index l.ops) ≡ folded l.ops
