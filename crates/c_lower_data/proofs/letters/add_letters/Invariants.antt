use Rattle.std.proofs.Common.{drop}
use Rattle.c_lower_data.proofs.LetterLemmas.{Lettering}
use Rattle.c_lower_data.proofs.letters.add_letters.Given as goal

abbrev pub invariant-loop-text : goal.invariant-loop-text
invariant-loop-text l = Lettering l.fn.words.items l.words.items l.literals (drop l.text-index l.literals)
