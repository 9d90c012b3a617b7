use Rattle.ws_lang.proofs.PlaceLemmas.{one_place_each}
use Rattle.ws_lang.proofs.laws.labels_have_one_place.Goals as goal

pub returns : goal.returns
returns c = one_place_each
