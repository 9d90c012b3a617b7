use Rattle.c_tracks.proofs.Whole.{steps as law}
use Rattle.c_tracks.proofs.laws.plain_steps_track_code.Goals as goal

pub returns : goal.returns
returns c = law
