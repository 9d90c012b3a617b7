use Rattle.bf_lang.proofs.Spelled.{are_spelled, spelled_balanced}
use Rattle.bf_lang.proofs.laws.commands_are_spelled.Goals as goal

pub returns-clause-all : goal.returns-clause-all
returns-clause-all c = λ code. are_spelled code

pub returns-clause-no_others : goal.returns-clause-no_others
returns-clause-no_others c = λ text code s. spelled_balanced text code s
