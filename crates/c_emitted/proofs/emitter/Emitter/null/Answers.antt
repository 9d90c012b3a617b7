use Rattle.c_eval.specs.State as run
use Rattle.c_code.specs.Code as code
use Rattle.c_resolved.specs.Same as same
use Rattle.c_store.specs.Values as values
use Rattle.c_emitted.proofs.emitter.Emitter.null.Goals as goal

pub returns : goal.returns
returns c = c.constant.ensures (code.Push run.Null) (record { means = λ names p k e found. (values.Null, found, same.null) })
