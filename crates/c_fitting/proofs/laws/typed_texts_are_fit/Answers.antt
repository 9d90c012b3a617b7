use Rattle.c_fitting.proofs.ItemLemmas.{typed_texts_are_fit as law}
use Rattle.c_fitting.proofs.laws.typed_texts_are_fit.Goals as goal

pub returns : goal.returns
returns c = law
