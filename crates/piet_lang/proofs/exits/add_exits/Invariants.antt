use Rattle.piet_lang.proofs.ExitLemmas.{AddsSome}
use Rattle.piet_lang.proofs.exits.add_exits.Given as goal

abbrev pub invariant-loop-k : goal.invariant-loop-k
invariant-loop-k l = AddsSome l.members l.fn.exits.items l.exits.items l.k
