use Rattle.c_tracks.proofs.Starting.{starts as law}
use Rattle.c_tracks.proofs.laws.plain_starts_as_text.Goals as goal

pub returns : goal.returns
returns c = law
