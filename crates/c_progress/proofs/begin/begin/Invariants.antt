use Rattle.std.proofs.Common.{◌-◌, length}
use Rattle.c_grammar.specs.Grammar.{rhs}
use Rattle.c_progress.proofs.Begins.{HasBegun}
use Rattle.c_progress.proofs.begin.begin.Given as goal

abbrev pub invariant-places : goal.invariant-places
invariant-places l = HasBegun l.fn.frame l.frame l.token l.fn.stack.items l.stack.items

abbrev pub decreases-places : goal.decreases-places
decreases-places l = length (rhs l.frame.production) - length l.frame.done.items
