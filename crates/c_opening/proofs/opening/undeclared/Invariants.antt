use Rattle.std.proofs.Common.{◌≡◌, replicate}
use Rattle.c_layouts.specs.declared.layout.Layout.TheVariants.{Undeclared}
use Rattle.c_opening.proofs.opening.undeclared.Given as goal

abbrev pub invariant-loop-index : goal.invariant-loop-index
invariant-loop-index l = l.layouts.items ≡ replicate l._index Undeclared
