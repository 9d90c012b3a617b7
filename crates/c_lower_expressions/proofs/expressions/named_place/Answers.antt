use Rattle.c_emission.specs.View.{direct_of}
use Rattle.c_applied.proofs.LeadsLemmas.{kept, same_direct}
use Rattle.c_lower_expressions.proofs.expressions.named_place.Goals as goal

pub returns-clause-keeps : goal.returns-clause-keeps
returns-clause-keeps c = kept (c.in_ok-load.ensures (direct_of c.address_of.result) (same_direct c.address_of.result))
