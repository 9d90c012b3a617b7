use Rattle.piet_lang.proofs.StackLemmas.{values_none}
use Rattle.piet_lang.proofs.stack.Stack.new.Goals as goal

pub returns : goal.returns
returns c = values_none _
