use Rattle.eir_text.proofs.Once.{no_refusal, spelled_too_large, unrefused_spelled}
use Rattle.eir_text.proofs.laws.refusals_are_exact.Goals as goal

pub returns : goal.returns
returns c = record { unrefused = unrefused_spelled; small = no_refusal; large = spelled_too_large }
