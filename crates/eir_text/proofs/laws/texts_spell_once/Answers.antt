use Rattle.eir_text.proofs.Once.{one_program}
use Rattle.eir_text.proofs.laws.texts_spell_once.Goals as goal

pub returns : goal.returns
returns c = one_program
