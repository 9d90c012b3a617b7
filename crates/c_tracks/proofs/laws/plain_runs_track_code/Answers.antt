use Rattle.c_tracks.proofs.Whole.{runs as law}
use Rattle.c_tracks.proofs.laws.plain_runs_track_code.Goals as goal

pub returns : goal.returns
returns c = law
