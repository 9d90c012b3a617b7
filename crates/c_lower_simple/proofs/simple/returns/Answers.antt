use Rattle.std.proofs.Common.{◌≡◌, ℕ, ◌+◌, List, length, refl, sym, ap, subst, ◌∙◌, add-zero}
use Rattle.std.specs.Prelude.{Option, Some, None, IfOk, OnOk}
use Rattle.c_syntax.specs.Plain as tree
use Rattle.c_syntax.specs.Plain.{CExpr}
use Rattle.c_syntax.specs.View.{form_of, expr_of, maybe}
use Rattle.c_syntax.specs.declared.tree.Expr.{Expr}
use Rattle.c_syntax.specs.declared.tree.Form.{Form}
use Rattle.c_syntax.specs.declared.tree.StepOp.{StepOp}
use Rattle.c_eval.specs.LiteralsIn.{maybe_literals}
use Rattle.c_lowered.specs.Counts.{expr_jumps, truth_jumps, maybe_jumps, maybe_truth_jumps}
use Rattle.c_lowered.specs.Expressions.{value_code, effect_code, unused}
use Rattle.c_lowered.specs.Statements.{maybe_effect_code, maybe_unless_code, returned_code, jump_to}
use Rattle.c_applied.specs.Leads.{Leads, Keeps, literal_count}
use Rattle.c_applied.proofs.LeadsLemmas.{nothing, keeps_none, keeps_then, kept, then_piece, leads, told_block, same_number}
use Rattle.c_lower_simple.specs.Unused.{updating}
use Rattle.c_lower_simple.proofs.UnusedLemmas.{unused_is, one_more}
use Rattle.c_lower_simple.proofs.simple.returns.Goals as goal

pub returns-in_ok-returned-in-Some-clause-code : goal.returns-in_ok-returned-in-Some-clause-code
returns-in_ok-returned-in-Some-clause-code c = λ w env m n is hk hd.
    let f = c.in_ok-behind-in-Some.ensures.code w env m n is hk hd in
    subst (λ (o : Option Expr). Leads c.args.out.now c.returned.new.out (returned_code (maybe o) w env m n) (length (maybe_literals env.scope (maybe o))) c.next.result (m + (maybe_jumps (maybe o) + 1))) (sym c.in-Some.is) (leads (then_piece f.emits c.in_ok-returned-in-Some.ensures) (told_block (one_more m (expr_jumps (expr_of c.in-Some.there))) (c.next.ensures (m + (expr_jumps (expr_of c.in-Some.there))) f.block)))

pub returns-in_ok-returned-in-Some-clause-keeps : goal.returns-in_ok-returned-in-Some-clause-keeps
returns-in_ok-returned-in-Some-clause-keeps c = keeps_then c.in_ok-behind-in-Some.ensures.keeps (kept c.in_ok-returned-in-Some.ensures)

pub returns-in_ok-returned-in-None-clause-code : goal.returns-in_ok-returned-in-None-clause-code
returns-in_ok-returned-in-None-clause-code c = λ w env m n is hk hd.
    subst (λ (o : Option Expr). Leads c.args.out.now c.returned-in-None.new.out (returned_code (maybe o) w env m n) (length (maybe_literals env.scope (maybe o))) c.next-in-None.result (m + (maybe_jumps (maybe o) + 1))) (sym c.in-None.is) (leads c.in_ok-returned-in-None.ensures (c.next-in-None.ensures m hk))

pub returns-in_ok-returned-in-None-clause-keeps : goal.returns-in_ok-returned-in-None-clause-keeps
returns-in_ok-returned-in-None-clause-keeps c = kept c.in_ok-returned-in-None.ensures
