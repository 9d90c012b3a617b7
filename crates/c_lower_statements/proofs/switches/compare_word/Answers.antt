use Rattle.std.proofs.Common.{ℕ, ◌+◌, ◌∷◌, [], sym, subst, ap}
use Rattle.std.specs.Prelude.{Option}
use Rattle.eir_core.specs.declared.ops.Reg.TheVariants.{A}
use Rattle.eir_core.specs.declared.ops.Cond.TheVariants.{Eq}
use Rattle.eir_core.specs.declared.ops.Op.TheVariants.{JumpIf}
use Rattle.eir_core.specs.declared.ops.Operand.{Operand}
use Rattle.c_syntax.specs.Plain as tree
use Rattle.c_syntax.specs.View.{maybe}
use Rattle.c_syntax.specs.declared.tree.Expr.{Expr}
use Rattle.c_lowered.specs.Operations.{constant}
use Rattle.c_addressing.specs.Here.{Emits}
use Rattle.c_addressing.proofs.HereLemmas.{as_code}
use Rattle.c_applied.proofs.LeadsLemmas.{nothing, keeps_none, keeps_then, kept, piece_then, same_number}
use Rattle.std.proofs.Common.{◌∙◌}
use Rattle.c_lower_statements.specs.Pieces.{label_code}
use Rattle.c_lower_statements.proofs.switches.compare_word.Goals as goal

pub returns-in_ok-jump_where-in-Some-clause-code : goal.returns-in_ok-jump_where-in-Some-clause-code
returns-in_ok-jump_where-in-Some-clause-code c = λ at m s holds hk.
    subst (λ (o : Option Expr). Emits c.args.out.now c.jump_where.new.out (label_code (tree.Label at (maybe o)) s m) 0) (sym c.in-Some.is)
    (as_code (ap (λ (o : Operand). JumpIf Eq (constant (m + 1)) A o ∷ []) (c.constant.ensures ∙ ap (λ (n : ℕ). constant n) (c.in_ok-word-in-Some.ensures.word s holds)))
    (piece_then c.in_ok-word-in-Some.ensures.still (c.in_ok-jump_where-in-Some.ensures (m + 1) (c.next.ensures m hk))))

pub returns-in_ok-jump_where-in-Some-clause-keeps : goal.returns-in_ok-jump_where-in-Some-clause-keeps
returns-in_ok-jump_where-in-Some-clause-keeps c = keeps_then (kept c.in_ok-word-in-Some.ensures.still) (kept (c.in_ok-jump_where-in-Some.ensures c.next.result (same_number c.next.result)))

pub returns-in-None-clause-code : goal.returns-in-None-clause-code
returns-in-None-clause-code c = λ at m s holds hk.
    subst (λ (o : Option Expr). Emits c.args.out.now c.args.out.now (label_code (tree.Label at (maybe o)) s m) 0) (sym c.in-None.is) (nothing c.args.out.now)

pub returns-in-None-clause-keeps : goal.returns-in-None-clause-keeps
returns-in-None-clause-keeps c = keeps_none c.args.out.now
