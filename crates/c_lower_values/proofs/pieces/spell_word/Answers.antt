use Rattle.std.proofs.Common.{[], ◌∷◌, ap}
use Rattle.eir_core.specs.declared.ops.Operand.{Operand}
use Rattle.eir_core.specs.declared.ops.Reg.TheVariants.{A}
use Rattle.eir_core.specs.declared.ops.Op.TheVariants.{Mov}
use Rattle.c_lowered.specs.Locations.{Framed}
use Rattle.c_addressing.proofs.HereLemmas.{as_code}
use Rattle.c_applied.proofs.LeadsLemmas.{on_ok, then_piece}
use Rattle.c_lower_values.proofs.pieces.spell_word.Goals as goal

pub returns : goal.returns
returns c = λ n h. on_ok c.store.result (λ e. then_piece (as_code (ap (λ (o : Operand). Mov A o ∷ []) c.constant.ensures) c.in_ok-operation.ensures) e) (c.store.ensures (Framed n) h)
