use Rattle.ws_lang.proofs.AnswerLemmas.{spelled_or_refused}
use Rattle.ws_lang.proofs.laws.texts_are_spelled_or_refused.Goals as goal

pub returns : goal.returns
returns c = λ text. spelled_or_refused text
