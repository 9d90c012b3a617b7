use Rattle.std.proofs.Common.{◌+◌, ◌*◌, max, drop}
use Rattle.c_syntax.proofs.tree.Ty.TheLaws as type
use Rattle.c_syntax.proofs.tree.Tys.TheLaws as row
use Rattle.c_fewer_trees.proofs.GivenLemmas.{MakingTypes}
use Rattle.c_fewer_trees.proofs.written.+fewer_in_type.Given as goal

abbrev pub invariant-fewer_in_types-loop-t : goal.invariant-fewer_in_types-loop-t
invariant-fewer_in_types-loop-t l = MakingTypes l.fn.types l.types l.here l.trees.items (drop l.t-index l.all.items.items) l.all.items.items

abbrev pub decreases-fewer_in_type : goal.decreases-fewer_in_type
decreases-fewer_in_type l = 3 * (type.the_size l.t.now) + 0

abbrev pub decreases-fewer_in_array : goal.decreases-fewer_in_array
decreases-fewer_in_array l = 3 * (type.the_size l.of.now) + 1

abbrev pub decreases-fewer_in_function : goal.decreases-fewer_in_function
decreases-fewer_in_function l = 3 * (max (type.the_size l.gives.now) (row.the_size l.parameters.now)) + 1

abbrev pub decreases-fewer_in_types : goal.decreases-fewer_in_types
decreases-fewer_in_types l = 3 * (row.the_size l.all.now) + 0
