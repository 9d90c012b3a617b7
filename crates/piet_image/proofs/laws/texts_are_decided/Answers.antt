use Rattle.piet_image.proofs.Decided.{never_both, spelled_once}
use Rattle.piet_image.proofs.Decides.{decided}
use Rattle.piet_image.proofs.Reasons.{one_reason}
use Rattle.piet_image.proofs.laws.texts_are_decided.Goals as goal

pub returns : goal.returns
returns c = record { some = decided; one_reason = one_reason; never_both = never_both; spelled_once = spelled_once }
