use Rattle.c_code.specs.Code as code
use Rattle.c_emitted.proofs.EmitLemmas.{on_ok, both}
use Rattle.c_pieces.proofs.calls.through.Goals as goal

pub returns : goal.returns
returns c = λ ts h.
    on_ok c.add.result (both c.in_ok-given.ensures.emits)
    (c.add.ensures (code.CallThrough ts c.args.count) (record { means = λ names p e. (c.in_ok-given.ensures.told ts h).are names p e }))
