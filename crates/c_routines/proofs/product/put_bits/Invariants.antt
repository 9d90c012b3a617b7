use Rattle.std.proofs.Common.{◌≡◌, ◌++◌}
use Rattle.c_routines.specs.Product.{bits}
use Rattle.c_routines.proofs.product.put_bits.Given as goal

abbrev pub invariant-loop-j : goal.invariant-loop-j
invariant-loop-j l = l.items.items ++ bits l.base l.j ≡ l.initial.items.items ++ bits l.base l.k
