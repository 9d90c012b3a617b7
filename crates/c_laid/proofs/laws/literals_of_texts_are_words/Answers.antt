use Rattle.c_laid.proofs.Whole.{literals_of_texts_are_words as law}
use Rattle.c_laid.proofs.laws.literals_of_texts_are_words.Goals as goal

pub returns : goal.returns
returns c = law
