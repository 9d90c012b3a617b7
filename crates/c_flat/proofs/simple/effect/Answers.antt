use Rattle.std.proofs.Common.{refl}
use Rattle.c_code.specs.Code as code
use Rattle.c_emitted.proofs.EmitLemmas.{on_ok, later}
use Rattle.c_flat.proofs.simple.effect.Goals as goal

pub returns-clause-emits : goal.returns-clause-emits
returns-clause-emits c = λ site env here fit. on_ok c.add.result (later (c.in_ok-judged.ensures.emits site env here fit)) (c.add.ensures code.Drop (record { means = λ names p e. refl }))
