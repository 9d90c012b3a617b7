use Rattle.std.proofs.Common.{◌≡◌}
use Rattle.c_syntax.specs.View.{ty_of}
use Rattle.c_held.specs.View.{layers_of}
use Rattle.c_held_rows.proofs.types.with_layers.Given as goal

abbrev pub invariant-loop-layer : goal.invariant-loop-layer
invariant-loop-layer l = layers_of l.layers.items (ty_of l.ty) ≡ layers_of l.fn.layers.items (ty_of l.fn.ty)

abbrev pub decreases-loop-layer : goal.decreases-loop-layer
decreases-loop-layer l = goal.left-loop-layer l
