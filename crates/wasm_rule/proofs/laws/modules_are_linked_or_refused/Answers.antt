use Rattle.wasm_rule.proofs.Linkable.{one_answer}
use Rattle.wasm_rule.proofs.laws.modules_are_linked_or_refused.Goals as goal

pub returns : goal.returns
returns c = one_answer
