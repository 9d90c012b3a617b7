use Rattle.c_types.proofs.RefusalLemmas.{answers_say}
use Rattle.c_types.proofs.laws.answers_are_of_typed_texts.Goals as goal

pub returns : goal.returns
returns c = answers_say
