use Rattle.bf_trail.proofs.Loaded.{bytes_loaded}
use Rattle.bf_trail.proofs.laws.bytes_are_loaded.Goals as goal

pub returns : goal.returns
returns c = bytes_loaded
