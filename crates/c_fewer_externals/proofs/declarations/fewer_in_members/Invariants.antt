use Rattle.std.proofs.Common.{drop}
use Rattle.c_fewer_externals.proofs.ListLemmas.{Listing}
use Rattle.c_fewer_externals.proofs.declarations.fewer_in_members.Given as goal

abbrev pub invariant-loop-d : goal.invariant-loop-d
invariant-loop-d l = Listing l.fn.types l.types l.here l.trees.items (drop l.d-index l.all.items.items) l.all.items.items
