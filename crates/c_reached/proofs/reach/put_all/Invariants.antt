use Rattle.std.proofs.Common.{◌≡◌, drop}
use Rattle.std.specs.Prelude.{is_some}
use Rattle.c_tree_names.specs.Added.{texts}
use Rattle.c_reached.specs.Bodies.{body_in}
use Rattle.c_reached.specs.Reaching.{with_all}
use Rattle.c_reached.proofs.reach.put_all.Given as goal

-- those that are left are put to those so far
abbrev pub invariant-loop-name : goal.invariant-loop-name
invariant-loop-name l = with_all (λ f. is_some (body_in l.bodies.entries f)) (texts l.known.keys) (texts (drop l.name-index l.names)) ≡ with_all (λ f. is_some (body_in l.bodies.entries f)) (texts l.fn.known.keys) (texts l.names)
