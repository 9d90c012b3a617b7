use Rattle.c_code.specs.Code as code
use Rattle.c_emitted.proofs.TableLemmas.{begins_then, begins_get}
use Rattle.c_emitted.proofs.EmitLemmas.{on_ok, both}
use Rattle.c_pieces.proofs.calls.direct.Goals as goal

pub returns : goal.returns
returns c = λ ts h.
    on_ok c.add.result (both (both c.in_ok-number.ensures.emits c.in_ok-given.ensures.emits))
    (c.add.ensures (code.Call c.args.name.now ts c.args.count) (record {
      means = λ names p e.
          (begins_get (begins_then c.in_ok-given.ensures.emits.tables.names e.names) c.in_ok-number.number c.args.name.now c.in_ok-number.ensures.named, (c.in_ok-given.ensures.told ts h).are names p e);
    }))
