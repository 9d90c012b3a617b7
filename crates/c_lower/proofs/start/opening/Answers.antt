use Rattle.std.proofs.Common.{[], ◌∷◌, ap, ◌∙◌}
use Rattle.eir_core.specs.declared.ops.Operand.{Operand}
use Rattle.eir_core.specs.declared.ops.Reg.TheVariants.{A, BP}
use Rattle.eir_core.specs.declared.ops.Op.TheVariants.{Mov}
use Rattle.c_addressing.proofs.SameLemmas.{same_constant}
use Rattle.c_addressing.proofs.HereLemmas.{as_code}
use Rattle.c_applied.proofs.LeadsLemmas.{on_ok, then_piece, same_number}
use Rattle.c_lower.proofs.start.opening.Goals as goal

pub returns : goal.returns
returns c = λ a k ha hk.
    let base = as_code (ap (λ (o : Operand). Mov BP o ∷ []) (c.constant.ensures ∙ same_constant c.args.base a ha)) c.in_ok-operation.ensures in
    let one = as_code (ap (λ (o : Operand). Mov A o ∷ []) c.constant-2.ensures) c.in_ok-operation-2.ensures in
    let call = then_piece (then_piece (then_piece base one) c.in_ok-operation-3.ensures) (c.in_ok-jump.ensures k hk) in
    on_ok c.jump-2.result (λ e. then_piece (then_piece call c.in_ok-operation-4.ensures) e) (c.jump-2.ensures 0 (same_number 0))
