use Rattle.ws_lang.proofs.VerdictLemmas.{one_answer}
use Rattle.ws_lang.proofs.laws.texts_have_one_answer.Goals as goal

pub returns : goal.returns
returns c = one_answer
