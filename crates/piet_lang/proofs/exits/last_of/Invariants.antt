use Rattle.piet_lang.proofs.ExitLemmas.{LastBelow}
use Rattle.piet_lang.proofs.exits.last_of.Given as goal

abbrev pub invariant-loop-i : goal.invariant-loop-i
invariant-loop-i l = LastBelow l.members l.fn.pointer l.fn.chooser l.i l.last
