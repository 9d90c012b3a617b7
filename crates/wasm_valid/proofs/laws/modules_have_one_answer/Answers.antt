use Rattle.wasm_valid.proofs.LawLemmas.{one_answer}
use Rattle.wasm_valid.proofs.laws.modules_have_one_answer.Goals as goal

pub returns : goal.returns
returns c = one_answer
