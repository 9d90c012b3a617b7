use Rattle.wasm_bin.proofs.Answer.{spelled_or_refused, one_refusal}
use Rattle.wasm_bin.proofs.Decoded.{spelled_or}
use Rattle.wasm_bin.proofs.laws.modules_have_one_answer.Goals as goal

pub returns : goal.returns
returns c = record { some = spelled_or; apart = spelled_or_refused; once = one_refusal }
