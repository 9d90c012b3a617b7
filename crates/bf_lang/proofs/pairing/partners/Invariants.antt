use Rattle.bf_lang.specs.Pairing.{ArePaired}
use Rattle.bf_lang.proofs.pairing.partners.Given as goal

abbrev pub invariant-loop-k : goal.invariant-loop-k
invariant-loop-k l = ArePaired l.commands l.k l.folds.items l.waiting.items
