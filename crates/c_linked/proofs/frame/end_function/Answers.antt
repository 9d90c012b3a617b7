use Rattle.std.proofs.Common.{refl}
use Rattle.c_code.specs.Code as code
use Rattle.c_emitted.proofs.EmitLemmas.{later, on_ok}
use Rattle.c_linked.proofs.frame.end_function.Goals as goal

pub returns : goal.returns
returns c = on_ok c.add.result (λ e. later c.in_ok-missing.ensures e) (c.add.ensures code.Return (record { means = λ names p e. refl }))
