use Rattle.c_limited.proofs.Whole.{typed_texts_are_limited as law}
use Rattle.c_limited.proofs.laws.typed_texts_are_limited.Goals as goal

pub returns : goal.returns
returns c = law
