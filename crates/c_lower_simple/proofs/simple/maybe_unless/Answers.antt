use Rattle.std.proofs.Common.{◌≡◌, ℕ, ◌+◌, List, length, refl, sym, ap, subst, ◌∙◌, add-zero}
use Rattle.std.specs.Prelude.{Option, Some, None, IfOk, OnOk}
use Rattle.c_syntax.specs.Plain as tree
use Rattle.c_syntax.specs.Plain.{CExpr}
use Rattle.c_syntax.specs.View.{form_of, expr_of, maybe}
use Rattle.c_syntax.specs.declared.tree.Expr.{Expr}
use Rattle.c_syntax.specs.declared.tree.Form.{Form}
use Rattle.c_syntax.specs.declared.tree.StepOp.{StepOp}
use Rattle.c_eval.specs.LiteralsIn.{maybe_literals}
use Rattle.c_lowered.specs.Counts.{expr_jumps, truth_jumps, maybe_jumps, maybe_truth_jumps}
use Rattle.c_lowered.specs.Expressions.{value_code, effect_code, unused}
use Rattle.c_lowered.specs.Statements.{maybe_effect_code, maybe_unless_code, returned_code, jump_to}
use Rattle.c_applied.specs.Leads.{Leads, Keeps, literal_count}
use Rattle.c_applied.proofs.LeadsLemmas.{nothing, keeps_none, keeps_then, kept, then_piece, leads, told_block, same_number}
use Rattle.c_lower_simple.specs.Unused.{updating}
use Rattle.c_lower_simple.proofs.UnusedLemmas.{unused_is, one_more}
use Rattle.c_lower_simple.proofs.simple.maybe_unless.Goals as goal

pub returns-in-Some-clause-code : goal.returns-in-Some-clause-code
returns-in-Some-clause-code c = λ t ht w env m n is hk hd.
    subst (λ (o : Option Expr). IfOk c.unless.result (λ r. Leads c.args.out.now c.unless.new.out (maybe_unless_code (maybe o) w env m n t) (length (maybe_literals env.scope (maybe o))) r (m + maybe_truth_jumps (maybe o)))) (sym c.in-Some.is) (c.unless.ensures.code t ht w env m n is hk hd)

pub returns-in-Some-clause-keeps : goal.returns-in-Some-clause-keeps
returns-in-Some-clause-keeps c = c.unless.ensures.keeps

pub returns-in-None-clause-code : goal.returns-in-None-clause-code
returns-in-None-clause-code c = λ t ht w env m n is hk hd.
    subst (λ (o : Option Expr). Leads c.args.out.now c.args.out.now (maybe_unless_code (maybe o) w env m n t) (length (maybe_literals env.scope (maybe o))) c.args.k (m + maybe_truth_jumps (maybe o))) (sym c.in-None.is) (leads (nothing c.args.out.now) (told_block (sym (add-zero m)) hk))

pub returns-in-None-clause-keeps : goal.returns-in-None-clause-keeps
returns-in-None-clause-keeps c = keeps_none c.args.out.now
