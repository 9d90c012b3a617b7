use Rattle.c_compiled.proofs.Calls.{calls_may_be_called as law}
use Rattle.c_compiled.proofs.few_laws.calls_may_be_called.Goals as goal

pub returns : goal.returns
returns c = law
