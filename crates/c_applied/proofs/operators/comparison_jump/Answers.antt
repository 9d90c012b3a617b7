use Rattle.std.proofs.Common.{◌≡◌, ℕ, ◌+◌, ◌++◌, Bool, true, false, not, ◌||◌, List, [], ◌∷◌, length, refl, sym, ap, subst, ◌∙◌, append_assoc, append-nil, arith, if◌then◌else◌}
use Rattle.std.specs.Prelude.{Option, Some, None, OnOk, IfOk}
use Rattle.c_applied.specs.Pieces as pieces
use Rattle.eir_core.specs.declared.ops.Operand.{Operand}
use Rattle.eir_core.specs.declared.ops.Op.TheVariants.{JumpIf}
use Rattle.c_lowered.specs.Operations.{constant, opposite}
use Rattle.c_addressing.specs.Here.{Emits}
use Rattle.c_addressing.proofs.HereLemmas.{as_code}
use Rattle.c_applied.proofs.LeadsLemmas.{then_piece, kept, keeps_then, same_number}
use Rattle.c_applied.proofs.PieceLemmas.{jump_is}
use Rattle.c_applied.proofs.operators.comparison_jump.Goals as goal

pub returns-clause-code : goal.returns-clause-code
returns-clause-code c = λ t h. as_code (jump_is c.args.signed c.args.holds t c.args.test c.args.first c.args.second)
    (then_piece c.in_ok-put_lifts.ensures (subst (λ (o : Operand). Emits c.put_lifts.new.out c.jump_where.new.out (JumpIf (if c.args.holds then c.args.test else opposite c.args.test) (constant t) c.args.first o ∷ []) 0) c.compared_operand.ensures (c.in_ok-jump_where.ensures t h)))

pub returns-clause-keeps : goal.returns-clause-keeps
returns-clause-keeps c = keeps_then (kept c.in_ok-put_lifts.ensures) (kept (c.in_ok-jump_where.ensures c.args.target (same_number c.args.target)))
