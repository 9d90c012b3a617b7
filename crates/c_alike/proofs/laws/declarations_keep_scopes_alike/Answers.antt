use Rattle.c_alike.proofs.Scopes.{declarations_keep_scopes_alike as law}
use Rattle.c_alike.proofs.laws.declarations_keep_scopes_alike.Goals as goal

pub returns : goal.returns
returns c = law
