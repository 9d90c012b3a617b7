use Rattle.bf_codes.proofs.Operated.{serve_from}
use Rattle.bf_codes.proofs.laws.memory_is_served.Goals as goal

pub returns : goal.returns
returns c = serve_from
