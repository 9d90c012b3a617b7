use Rattle.std.proofs.Common.{◌≡◌, ℕ, ◌+◌, ◌++◌, Bool, true, false, not, ◌||◌, List, [], ◌∷◌, length, refl, sym, ap, subst, ◌∙◌, append_assoc, append-nil, arith, if◌then◌else◌}
use Rattle.std.specs.Prelude.{Option, Some, None, OnOk, IfOk}
use Rattle.eir_core.specs.declared.ops.Reg.TheVariants.{A, B}
use Rattle.eir_core.specs.declared.ops.Operand.{Operand}
use Rattle.eir_core.specs.declared.ops.Operand.TheVariants.{Reg as register}
use Rattle.eir_core.specs.declared.ops.Op.TheVariants.{Mov, Sub}
use Rattle.c_addressing.proofs.HereLemmas.{as_code}
use Rattle.c_applied.proofs.LeadsLemmas.{then_piece}
use Rattle.c_applied.proofs.places.put_negated.Goals as goal

pub returns : goal.returns
returns c = as_code (ap (λ (o : Operand). Mov B (register A) ∷ Mov A o ∷ Sub A (register B) ∷ []) c.constant.ensures) (then_piece c.in_ok-operation.ensures (then_piece c.in_ok-operation-2.ensures c.in_ok-operation-3.ensures))
