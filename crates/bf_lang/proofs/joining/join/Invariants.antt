use Rattle.bf_lang.specs.Fold.{AreFolds}
use Rattle.bf_lang.proofs.joining.join.Given as goal

abbrev pub invariant-loop-k : goal.invariant-loop-k
invariant-loop-k l = AreFolds l.commands l.folds
