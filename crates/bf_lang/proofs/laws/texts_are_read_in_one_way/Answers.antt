use Rattle.bf_lang.proofs.Spelled.{read_in_one_way}
use Rattle.bf_lang.proofs.laws.texts_are_read_in_one_way.Goals as goal

pub returns : goal.returns
returns c = λ text. read_in_one_way text
