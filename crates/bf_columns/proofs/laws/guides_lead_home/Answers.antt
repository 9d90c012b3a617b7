use Rattle.bf_columns.proofs.Visited.{guides_home}
use Rattle.bf_columns.proofs.laws.guides_lead_home.Goals as goal

pub returns : goal.returns
returns c = guides_home
