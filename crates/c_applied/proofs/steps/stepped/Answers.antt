use Rattle.std.proofs.Common.{◌≡◌, ℕ, ◌+◌, ◌++◌, Bool, true, false, not, ◌||◌, List, [], ◌∷◌, length, refl, sym, ap, subst, ◌∙◌, append_assoc, append-nil, arith, if◌then◌else◌}
use Rattle.std.specs.Prelude.{Option, Some, None, OnOk, IfOk}
use Rattle.c_eval.specs.Eval.{step_op}
use Rattle.c_syntax.specs.declared.tree.BinOp.{BinOp}
use Rattle.c_lowered.specs.Locations.{Exactly}
use Rattle.c_lowered.specs.Operations.{update_by}
use Rattle.c_addressing.specs.Here.{Emits}
use Rattle.c_applied.proofs.LeadsLemmas.{then_piece, same_number}
use Rattle.c_applied.proofs.steps.stepped.Goals as goal

pub returns : goal.returns
returns c = then_piece (subst (λ (o : BinOp). Emits c.args.out.now c.update_by.new.out (update_by o (Exactly 1)) 0) c.step_operator.ensures (c.in_ok-update_by.ensures (Exactly 1) (same_number 1))) c.in_ok-put_step_back.ensures
