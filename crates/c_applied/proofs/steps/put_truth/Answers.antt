use Rattle.std.proofs.Common.{◌≡◌, ℕ, ◌+◌, ◌++◌, Bool, true, false, not, ◌||◌, List, [], ◌∷◌, length, refl, sym, ap, subst, ◌∙◌, append_assoc, append-nil, arith, if◌then◌else◌}
use Rattle.std.specs.Prelude.{Option, Some, None, OnOk, IfOk}
use Rattle.eir_core.specs.declared.ops.Reg.TheVariants.{A, B}
use Rattle.eir_core.specs.declared.ops.Operand.{Operand}
use Rattle.eir_core.specs.declared.ops.Operand.TheVariants.{Reg as register}
use Rattle.eir_core.specs.declared.ops.Cond.TheVariants.{Eq}
use Rattle.eir_core.specs.declared.ops.Op.TheVariants.{Mov, Sub, Set, Getc, Jump}
use Rattle.c_lowered.specs.Operations.{constant}
use Rattle.c_addressing.proofs.HereLemmas.{as_code}
use Rattle.c_applied.proofs.LeadsLemmas.{then_piece, same_number, kept, keeps_then}
use Rattle.c_applied.proofs.steps.put_truth.Goals as goal

pub returns-clause-code : goal.returns-clause-code
returns-clause-code c = λ k h.
    as_code (ap (λ (o : Operand). Mov A o ∷ Jump (constant k) ∷ Mov A c.constant-2.result ∷ Jump (constant k) ∷ []) c.constant.ensures ∙ ap (λ (o : Operand). Mov A (constant 1) ∷ Jump (constant k) ∷ Mov A o ∷ Jump (constant k) ∷ []) c.constant-2.ensures)
    (then_piece c.in_ok-operation.ensures (then_piece (c.in_ok-jump.ensures k h) (then_piece c.in_ok-operation-2.ensures (c.in_ok-jump-2.ensures k h))))

pub returns-clause-keeps : goal.returns-clause-keeps
returns-clause-keeps c =
    let same = same_number c.args.over in
    keeps_then (kept c.in_ok-operation.ensures) (keeps_then (kept (c.in_ok-jump.ensures c.args.over same)) (keeps_then (kept c.in_ok-operation-2.ensures) (kept (c.in_ok-jump-2.ensures c.args.over same))))
