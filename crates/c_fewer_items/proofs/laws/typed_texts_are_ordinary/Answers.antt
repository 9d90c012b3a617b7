use Rattle.c_fewer_items.proofs.SmallElementsWhole.{typed_texts_are_ordinary as law}
use Rattle.c_fewer_items.proofs.laws.typed_texts_are_ordinary.Goals as goal

pub returns : goal.returns
returns c = law
