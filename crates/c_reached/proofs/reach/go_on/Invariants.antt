use Rattle.std.proofs.Common.{List, ℕ}
use Rattle.c_syntax.specs.Plain.{CItem}
use Rattle.c_tree_names.specs.Added.{texts}
use Rattle.c_reached.specs.Bodies.{Stands}
use Rattle.c_reached.specs.Reaching.{Reaching}
use Rattle.c_reached.proofs.reach.go_on.Given as goal

abbrev pub invariant-loop-place : goal.invariant-loop-place
invariant-loop-place l = (items : List CItem) (seeds : List (List ℕ)) → Stands l.bodies.entries items → Reaching items seeds (texts l.fn.known.keys) 0 → Reaching items seeds (texts l.known.keys) l.place
