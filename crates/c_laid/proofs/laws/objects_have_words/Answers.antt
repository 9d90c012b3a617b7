use Rattle.c_laid.proofs.FirstMemoriesObjects.{objects_have_words as law}
use Rattle.c_laid.proofs.laws.objects_have_words.Goals as goal

pub returns : goal.returns
returns c = law
