use Rattle.c_text.proofs.Ending.{read_texts_end}
use Rattle.c_text.proofs.laws.read_texts_end.Goals as goal

pub returns : goal.returns
returns c = read_texts_end
