use Rattle.wasm_bytes.proofs.Signed.{signed_value-last, signed_value-negative, signed_value-more}
use Rattle.wasm_bytes.proofs.laws.signed_numbers_are_spelled.Goals as goal

pub returns : goal.returns
returns c = record { last = signed_value-last; negative = signed_value-negative; more = signed_value-more }
