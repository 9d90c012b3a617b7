use Rattle.c_eval.specs.State as run
use Rattle.c_code.specs.Code as code
use Rattle.c_resolved.specs.Same as same
use Rattle.c_store.specs.Values as values
use Rattle.c_emitted.proofs.TableLemmas.{begins_get}
use Rattle.c_emitted.proofs.EmitLemmas.{on_ok, both}
use Rattle.c_emitted.proofs.emitter.Emitter.function.Goals as goal

pub returns : goal.returns
returns c =
    let f = c.in_ok-number.number in
    let name = c.args.name.now in
    on_ok c.constant.result (both c.in_ok-number.ensures.emits)
    (c.constant.ensures (code.Push (run.Function name)) (record { means = λ names p k e found. (values.Function f, found, same.function f name (begins_get e.names f name c.in_ok-number.ensures.named)) }))
