use Rattle.c_followed.proofs.Breaking.{typed_texts_break_inside as law}
use Rattle.c_followed.proofs.laws.typed_texts_break_inside.Goals as goal

pub returns : goal.returns
returns c = law
