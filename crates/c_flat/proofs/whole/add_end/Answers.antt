use Rattle.std.proofs.Common.{refl}
use Rattle.c_code.specs.Code as code
use Rattle.c_emitted.proofs.EmitLemmas.{later, on_ok}
use Rattle.c_flat.proofs.whole.add_end.Goals as goal

pub returns : goal.returns
returns c = on_ok c.add-2.result (λ e. later (c.in_ok-add.ensures code.Nowhere (record { means = λ names p e. refl })) e) (c.add-2.ensures code.End (record { means = λ names p e. refl }))
