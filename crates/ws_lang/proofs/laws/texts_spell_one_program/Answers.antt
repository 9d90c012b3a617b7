use Rattle.ws_lang.specs.Spelling.{signs_of}
use Rattle.ws_lang.proofs.DecodeLemmas.{one_code}
use Rattle.ws_lang.proofs.laws.texts_spell_one_program.Goals as goal

pub returns : goal.returns
returns c = λ text a b h k. one_code (signs_of text) a b h.spelled k.spelled
