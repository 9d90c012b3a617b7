use Rattle.c_resolved.proofs.Pointing.{members_show as law}
use Rattle.c_resolved.proofs.laws.members_show.Goals as goal

pub returns : goal.returns
returns c = law
