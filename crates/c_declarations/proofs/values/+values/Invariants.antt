use Rattle.c_declarations.specs.Sites.{site_of}
use Rattle.c_declarations.proofs.GoingLemmas.{Going}
use Rattle.c_declarations.proofs.values.+values.Given as goal

abbrev pub invariant-fit_all-loop-k : goal.invariant-fit_all-loop-k
invariant-fit_all-loop-k l = Going l.fn.types l.types l.declared (site_of l.site) l.slots l.told l.k l.values.items.items
