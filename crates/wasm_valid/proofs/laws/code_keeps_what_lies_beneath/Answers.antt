use Rattle.wasm_valid.proofs.LawLemmas.{HasType-above}
use Rattle.wasm_valid.proofs.laws.code_keeps_what_lies_beneath.Goals as goal

pub returns : goal.returns
returns c = λ k labels code a b n h. HasType-above code k labels a b n h
