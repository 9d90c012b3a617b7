use Rattle.std.proofs.Common.{◌≡◌, ◌++◌}
use Rattle.c_routines.specs.Both.{masks}
use Rattle.c_routines.proofs.both.put_masks.Given as goal

abbrev pub invariant-loop-j : goal.invariant-loop-j
invariant-loop-j l = l.items.items ++ masks l.base l.j ≡ l.initial.items.items ++ masks l.base l.k
