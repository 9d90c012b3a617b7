use Rattle.std.proofs.Common.{◌≡◌, drop}
use Rattle.c_helper_steps.specs.Postfix.{nothing, after_all}
use Rattle.c_helper_steps.specs.Seen.{seen}
use Rattle.c_helper_steps.proofs.bodies.made.Given as goal

-- what is made, and what the steps that are left make of it
abbrev pub invariant-loop-next : goal.invariant-loop-next
invariant-loop-next l = after_all (seen l.parts) (drop l.next-index l.steps) ≡ after_all nothing l.steps
