use Rattle.c_text.proofs.Ending.{prepared_texts_end}
use Rattle.c_text.proofs.laws.prepared_texts_end.Goals as goal

pub returns : goal.returns
returns c = prepared_texts_end
