use Rattle.std.proofs.Common.{drop}
use Rattle.c_lower_bases.proofs.ObjectLemmas.{Sizing}
use Rattle.c_lower_bases.proofs.sizes.sizes_of.Given as goal

abbrev pub invariant-loop-cells : goal.invariant-loop-cells
invariant-loop-cells l = Sizing l.sizes.items (drop l.cells-index l.objects) l.objects
