use Rattle.std.proofs.Common.{drop}
use Rattle.c_fewer_externals.proofs.ParameterLemmas.{Passing}
use Rattle.c_fewer_externals.proofs.parameters.fewer_in_all.Given as goal

abbrev pub invariant-loop-p : goal.invariant-loop-p
invariant-loop-p l = Passing l.fn.types l.types l.fn.here l.here l.trees.items (drop l.p-index l.all.items.items) l.all.items.items
