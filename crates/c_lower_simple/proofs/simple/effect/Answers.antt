use Rattle.std.proofs.Common.{◌≡◌, ℕ, ◌+◌, List, length, refl, sym, ap, subst, ◌∙◌, add-zero}
use Rattle.std.specs.Prelude.{Option, Some, None, IfOk, OnOk}
use Rattle.c_syntax.specs.Plain as tree
use Rattle.c_syntax.specs.Plain.{CExpr}
use Rattle.c_syntax.specs.View.{form_of, expr_of, maybe}
use Rattle.c_syntax.specs.declared.tree.Expr.{Expr}
use Rattle.c_syntax.specs.declared.tree.Form.{Form}
use Rattle.c_syntax.specs.declared.tree.StepOp.{StepOp}
use Rattle.c_eval.specs.LiteralsIn.{maybe_literals}
use Rattle.c_lowered.specs.Counts.{expr_jumps, truth_jumps, maybe_jumps, maybe_truth_jumps}
use Rattle.c_lowered.specs.Expressions.{value_code, effect_code, unused}
use Rattle.c_lowered.specs.Statements.{maybe_effect_code, maybe_unless_code, returned_code, jump_to}
use Rattle.c_applied.specs.Leads.{Leads, Keeps, literal_count}
use Rattle.c_applied.proofs.LeadsLemmas.{nothing, keeps_none, keeps_then, kept, then_piece, leads, told_block, same_number}
use Rattle.c_lower_simple.specs.Unused.{updating}
use Rattle.c_lower_simple.proofs.UnusedLemmas.{unused_is, one_more}
use Rattle.c_lower_simple.proofs.simple.effect.Goals as goal

pub returns-in-Number-clause-code : goal.returns-in-Number-clause-code
returns-in-Number-clause-code c = λ w env m n is hk hd.
    subst (λ (x : Form). IfOk c.value.result (λ r. Leads c.args.out.now c.value.new.out (effect_code (form_of x c.args.e.now.pos) w env m n) (literal_count env.scope (form_of x c.args.e.now.pos)) r (m + expr_jumps (form_of x c.args.e.now.pos)))) (sym c.in-Number.is)
    (subst (λ (x : Form). IfOk c.value.result (λ r. Leads c.args.out.now c.value.new.out (value_code (form_of x c.args.e.now.pos) w env m n) (literal_count env.scope (form_of x c.args.e.now.pos)) r (m + expr_jumps (form_of x c.args.e.now.pos)))) c.in-Number.is (c.value.ensures.code w env m n is hk hd))

pub returns-in-Number-clause-keeps : goal.returns-in-Number-clause-keeps
returns-in-Number-clause-keeps c = c.value.ensures.keeps

pub returns-in-Str-clause-code : goal.returns-in-Str-clause-code
returns-in-Str-clause-code c = λ w env m n is hk hd.
    subst (λ (x : Form). IfOk c.value-in-Str.result (λ r. Leads c.args.out.now c.value-in-Str.new.out (effect_code (form_of x c.args.e.now.pos) w env m n) (literal_count env.scope (form_of x c.args.e.now.pos)) r (m + expr_jumps (form_of x c.args.e.now.pos)))) (sym c.in-Str.is)
    (subst (λ (x : Form). IfOk c.value-in-Str.result (λ r. Leads c.args.out.now c.value-in-Str.new.out (value_code (form_of x c.args.e.now.pos) w env m n) (literal_count env.scope (form_of x c.args.e.now.pos)) r (m + expr_jumps (form_of x c.args.e.now.pos)))) c.in-Str.is (c.value-in-Str.ensures.code w env m n is hk hd))

pub returns-in-Str-clause-keeps : goal.returns-in-Str-clause-keeps
returns-in-Str-clause-keeps c = c.value-in-Str.ensures.keeps

pub returns-in-Null-clause-code : goal.returns-in-Null-clause-code
returns-in-Null-clause-code c = λ w env m n is hk hd.
    subst (λ (x : Form). IfOk c.value-in-Null.result (λ r. Leads c.args.out.now c.value-in-Null.new.out (effect_code (form_of x c.args.e.now.pos) w env m n) (literal_count env.scope (form_of x c.args.e.now.pos)) r (m + expr_jumps (form_of x c.args.e.now.pos)))) (sym c.in-Null.is)
    (subst (λ (x : Form). IfOk c.value-in-Null.result (λ r. Leads c.args.out.now c.value-in-Null.new.out (value_code (form_of x c.args.e.now.pos) w env m n) (literal_count env.scope (form_of x c.args.e.now.pos)) r (m + expr_jumps (form_of x c.args.e.now.pos)))) c.in-Null.is (c.value-in-Null.ensures.code w env m n is hk hd))

pub returns-in-Null-clause-keeps : goal.returns-in-Null-clause-keeps
returns-in-Null-clause-keeps c = c.value-in-Null.ensures.keeps

pub returns-in-Name-clause-code : goal.returns-in-Name-clause-code
returns-in-Name-clause-code c = λ w env m n is hk hd.
    subst (λ (x : Form). IfOk c.value-in-Name.result (λ r. Leads c.args.out.now c.value-in-Name.new.out (effect_code (form_of x c.args.e.now.pos) w env m n) (literal_count env.scope (form_of x c.args.e.now.pos)) r (m + expr_jumps (form_of x c.args.e.now.pos)))) (sym c.in-Name.is)
    (subst (λ (x : Form). IfOk c.value-in-Name.result (λ r. Leads c.args.out.now c.value-in-Name.new.out (value_code (form_of x c.args.e.now.pos) w env m n) (literal_count env.scope (form_of x c.args.e.now.pos)) r (m + expr_jumps (form_of x c.args.e.now.pos)))) c.in-Name.is (c.value-in-Name.ensures.code w env m n is hk hd))

pub returns-in-Name-clause-keeps : goal.returns-in-Name-clause-keeps
returns-in-Name-clause-keeps c = c.value-in-Name.ensures.keeps

pub returns-in-Unary-clause-code : goal.returns-in-Unary-clause-code
returns-in-Unary-clause-code c = λ w env m n is hk hd.
    subst (λ (x : Form). IfOk c.value-in-Unary.result (λ r. Leads c.args.out.now c.value-in-Unary.new.out (effect_code (form_of x c.args.e.now.pos) w env m n) (literal_count env.scope (form_of x c.args.e.now.pos)) r (m + expr_jumps (form_of x c.args.e.now.pos)))) (sym c.in-Unary.is)
    (subst (λ (x : Form). IfOk c.value-in-Unary.result (λ r. Leads c.args.out.now c.value-in-Unary.new.out (value_code (form_of x c.args.e.now.pos) w env m n) (literal_count env.scope (form_of x c.args.e.now.pos)) r (m + expr_jumps (form_of x c.args.e.now.pos)))) c.in-Unary.is (c.value-in-Unary.ensures.code w env m n is hk hd))

pub returns-in-Unary-clause-keeps : goal.returns-in-Unary-clause-keeps
returns-in-Unary-clause-keeps c = c.value-in-Unary.ensures.keeps

pub returns-in-Step-clause-code : goal.returns-in-Step-clause-code
returns-in-Step-clause-code c = λ w env m n is hk hd.
    let a = expr_of c.deref.result.now in
    let same : expr_of c.args.e.now ≡ tree.Step c.args.e.now.pos c.in-Step.op a = ap (λ (x : Form). form_of x c.args.e.now.pos) c.in-Step.is ∙ ap (λ (x : Expr). tree.Step c.args.e.now.pos c.in-Step.op (expr_of x)) (sym c.deref.ensures) in
    subst (λ (x : CExpr). IfOk c.step.result (λ r. Leads c.args.out.now c.step.new.out (effect_code x w env m n) (literal_count env.scope x) r (m + expr_jumps x))) (sym same)
    (subst (λ (x : CExpr). IfOk c.step.result (λ r. Leads c.args.out.now c.step.new.out (value_code x w env m n) (literal_count env.scope a) r (m + expr_jumps a))) (sym (unused_is c.args.e.now.pos c.in-Step.op a))
    (subst (λ (o : StepOp). IfOk c.step.result (λ r. Leads c.args.out.now c.step.new.out (value_code (tree.Step c.args.e.now.pos o a) w env m n) (literal_count env.scope a) r (m + expr_jumps a))) c.updating.ensures (c.step.ensures.code w env m n is hk hd)))

pub returns-in-Step-clause-keeps : goal.returns-in-Step-clause-keeps
returns-in-Step-clause-keeps c = c.step.ensures.keeps

pub returns-in-Binary-clause-code : goal.returns-in-Binary-clause-code
returns-in-Binary-clause-code c = λ w env m n is hk hd.
    subst (λ (x : Form). IfOk c.value-in-Binary.result (λ r. Leads c.args.out.now c.value-in-Binary.new.out (effect_code (form_of x c.args.e.now.pos) w env m n) (literal_count env.scope (form_of x c.args.e.now.pos)) r (m + expr_jumps (form_of x c.args.e.now.pos)))) (sym c.in-Binary.is)
    (subst (λ (x : Form). IfOk c.value-in-Binary.result (λ r. Leads c.args.out.now c.value-in-Binary.new.out (value_code (form_of x c.args.e.now.pos) w env m n) (literal_count env.scope (form_of x c.args.e.now.pos)) r (m + expr_jumps (form_of x c.args.e.now.pos)))) c.in-Binary.is (c.value-in-Binary.ensures.code w env m n is hk hd))

pub returns-in-Binary-clause-keeps : goal.returns-in-Binary-clause-keeps
returns-in-Binary-clause-keeps c = c.value-in-Binary.ensures.keeps

pub returns-in-Assign-clause-code : goal.returns-in-Assign-clause-code
returns-in-Assign-clause-code c = λ w env m n is hk hd.
    subst (λ (x : Form). IfOk c.value-in-Assign.result (λ r. Leads c.args.out.now c.value-in-Assign.new.out (effect_code (form_of x c.args.e.now.pos) w env m n) (literal_count env.scope (form_of x c.args.e.now.pos)) r (m + expr_jumps (form_of x c.args.e.now.pos)))) (sym c.in-Assign.is)
    (subst (λ (x : Form). IfOk c.value-in-Assign.result (λ r. Leads c.args.out.now c.value-in-Assign.new.out (value_code (form_of x c.args.e.now.pos) w env m n) (literal_count env.scope (form_of x c.args.e.now.pos)) r (m + expr_jumps (form_of x c.args.e.now.pos)))) c.in-Assign.is (c.value-in-Assign.ensures.code w env m n is hk hd))

pub returns-in-Assign-clause-keeps : goal.returns-in-Assign-clause-keeps
returns-in-Assign-clause-keeps c = c.value-in-Assign.ensures.keeps

pub returns-in-Cond-clause-code : goal.returns-in-Cond-clause-code
returns-in-Cond-clause-code c = λ w env m n is hk hd.
    subst (λ (x : Form). IfOk c.value-in-Cond.result (λ r. Leads c.args.out.now c.value-in-Cond.new.out (effect_code (form_of x c.args.e.now.pos) w env m n) (literal_count env.scope (form_of x c.args.e.now.pos)) r (m + expr_jumps (form_of x c.args.e.now.pos)))) (sym c.in-Cond.is)
    (subst (λ (x : Form). IfOk c.value-in-Cond.result (λ r. Leads c.args.out.now c.value-in-Cond.new.out (value_code (form_of x c.args.e.now.pos) w env m n) (literal_count env.scope (form_of x c.args.e.now.pos)) r (m + expr_jumps (form_of x c.args.e.now.pos)))) c.in-Cond.is (c.value-in-Cond.ensures.code w env m n is hk hd))

pub returns-in-Cond-clause-keeps : goal.returns-in-Cond-clause-keeps
returns-in-Cond-clause-keeps c = c.value-in-Cond.ensures.keeps

pub returns-in-Comma-clause-code : goal.returns-in-Comma-clause-code
returns-in-Comma-clause-code c = λ w env m n is hk hd.
    subst (λ (x : Form). IfOk c.value-in-Comma.result (λ r. Leads c.args.out.now c.value-in-Comma.new.out (effect_code (form_of x c.args.e.now.pos) w env m n) (literal_count env.scope (form_of x c.args.e.now.pos)) r (m + expr_jumps (form_of x c.args.e.now.pos)))) (sym c.in-Comma.is)
    (subst (λ (x : Form). IfOk c.value-in-Comma.result (λ r. Leads c.args.out.now c.value-in-Comma.new.out (value_code (form_of x c.args.e.now.pos) w env m n) (literal_count env.scope (form_of x c.args.e.now.pos)) r (m + expr_jumps (form_of x c.args.e.now.pos)))) c.in-Comma.is (c.value-in-Comma.ensures.code w env m n is hk hd))

pub returns-in-Comma-clause-keeps : goal.returns-in-Comma-clause-keeps
returns-in-Comma-clause-keeps c = c.value-in-Comma.ensures.keeps

pub returns-in-Cast-clause-code : goal.returns-in-Cast-clause-code
returns-in-Cast-clause-code c = λ w env m n is hk hd.
    subst (λ (x : Form). IfOk c.value-in-Cast.result (λ r. Leads c.args.out.now c.value-in-Cast.new.out (effect_code (form_of x c.args.e.now.pos) w env m n) (literal_count env.scope (form_of x c.args.e.now.pos)) r (m + expr_jumps (form_of x c.args.e.now.pos)))) (sym c.in-Cast.is)
    (subst (λ (x : Form). IfOk c.value-in-Cast.result (λ r. Leads c.args.out.now c.value-in-Cast.new.out (value_code (form_of x c.args.e.now.pos) w env m n) (literal_count env.scope (form_of x c.args.e.now.pos)) r (m + expr_jumps (form_of x c.args.e.now.pos)))) c.in-Cast.is (c.value-in-Cast.ensures.code w env m n is hk hd))

pub returns-in-Cast-clause-keeps : goal.returns-in-Cast-clause-keeps
returns-in-Cast-clause-keeps c = c.value-in-Cast.ensures.keeps

pub returns-in-SizeTy-clause-code : goal.returns-in-SizeTy-clause-code
returns-in-SizeTy-clause-code c = λ w env m n is hk hd.
    subst (λ (x : Form). IfOk c.value-in-SizeTy.result (λ r. Leads c.args.out.now c.value-in-SizeTy.new.out (effect_code (form_of x c.args.e.now.pos) w env m n) (literal_count env.scope (form_of x c.args.e.now.pos)) r (m + expr_jumps (form_of x c.args.e.now.pos)))) (sym c.in-SizeTy.is)
    (subst (λ (x : Form). IfOk c.value-in-SizeTy.result (λ r. Leads c.args.out.now c.value-in-SizeTy.new.out (value_code (form_of x c.args.e.now.pos) w env m n) (literal_count env.scope (form_of x c.args.e.now.pos)) r (m + expr_jumps (form_of x c.args.e.now.pos)))) c.in-SizeTy.is (c.value-in-SizeTy.ensures.code w env m n is hk hd))

pub returns-in-SizeTy-clause-keeps : goal.returns-in-SizeTy-clause-keeps
returns-in-SizeTy-clause-keeps c = c.value-in-SizeTy.ensures.keeps

pub returns-in-SizeOf-clause-code : goal.returns-in-SizeOf-clause-code
returns-in-SizeOf-clause-code c = λ w env m n is hk hd.
    subst (λ (x : Form). IfOk c.value-in-SizeOf.result (λ r. Leads c.args.out.now c.value-in-SizeOf.new.out (effect_code (form_of x c.args.e.now.pos) w env m n) (literal_count env.scope (form_of x c.args.e.now.pos)) r (m + expr_jumps (form_of x c.args.e.now.pos)))) (sym c.in-SizeOf.is)
    (subst (λ (x : Form). IfOk c.value-in-SizeOf.result (λ r. Leads c.args.out.now c.value-in-SizeOf.new.out (value_code (form_of x c.args.e.now.pos) w env m n) (literal_count env.scope (form_of x c.args.e.now.pos)) r (m + expr_jumps (form_of x c.args.e.now.pos)))) c.in-SizeOf.is (c.value-in-SizeOf.ensures.code w env m n is hk hd))

pub returns-in-SizeOf-clause-keeps : goal.returns-in-SizeOf-clause-keeps
returns-in-SizeOf-clause-keeps c = c.value-in-SizeOf.ensures.keeps

pub returns-in-Index-clause-code : goal.returns-in-Index-clause-code
returns-in-Index-clause-code c = λ w env m n is hk hd.
    subst (λ (x : Form). IfOk c.value-in-Index.result (λ r. Leads c.args.out.now c.value-in-Index.new.out (effect_code (form_of x c.args.e.now.pos) w env m n) (literal_count env.scope (form_of x c.args.e.now.pos)) r (m + expr_jumps (form_of x c.args.e.now.pos)))) (sym c.in-Index.is)
    (subst (λ (x : Form). IfOk c.value-in-Index.result (λ r. Leads c.args.out.now c.value-in-Index.new.out (value_code (form_of x c.args.e.now.pos) w env m n) (literal_count env.scope (form_of x c.args.e.now.pos)) r (m + expr_jumps (form_of x c.args.e.now.pos)))) c.in-Index.is (c.value-in-Index.ensures.code w env m n is hk hd))

pub returns-in-Index-clause-keeps : goal.returns-in-Index-clause-keeps
returns-in-Index-clause-keeps c = c.value-in-Index.ensures.keeps

pub returns-in-Call-clause-code : goal.returns-in-Call-clause-code
returns-in-Call-clause-code c = λ w env m n is hk hd.
    subst (λ (x : Form). IfOk c.value-in-Call.result (λ r. Leads c.args.out.now c.value-in-Call.new.out (effect_code (form_of x c.args.e.now.pos) w env m n) (literal_count env.scope (form_of x c.args.e.now.pos)) r (m + expr_jumps (form_of x c.args.e.now.pos)))) (sym c.in-Call.is)
    (subst (λ (x : Form). IfOk c.value-in-Call.result (λ r. Leads c.args.out.now c.value-in-Call.new.out (value_code (form_of x c.args.e.now.pos) w env m n) (literal_count env.scope (form_of x c.args.e.now.pos)) r (m + expr_jumps (form_of x c.args.e.now.pos)))) c.in-Call.is (c.value-in-Call.ensures.code w env m n is hk hd))

pub returns-in-Call-clause-keeps : goal.returns-in-Call-clause-keeps
returns-in-Call-clause-keeps c = c.value-in-Call.ensures.keeps

pub returns-in-Member-clause-code : goal.returns-in-Member-clause-code
returns-in-Member-clause-code c = λ w env m n is hk hd.
    subst (λ (x : Form). IfOk c.value-in-Member.result (λ r. Leads c.args.out.now c.value-in-Member.new.out (effect_code (form_of x c.args.e.now.pos) w env m n) (literal_count env.scope (form_of x c.args.e.now.pos)) r (m + expr_jumps (form_of x c.args.e.now.pos)))) (sym c.in-Member.is)
    (subst (λ (x : Form). IfOk c.value-in-Member.result (λ r. Leads c.args.out.now c.value-in-Member.new.out (value_code (form_of x c.args.e.now.pos) w env m n) (literal_count env.scope (form_of x c.args.e.now.pos)) r (m + expr_jumps (form_of x c.args.e.now.pos)))) c.in-Member.is (c.value-in-Member.ensures.code w env m n is hk hd))

pub returns-in-Member-clause-keeps : goal.returns-in-Member-clause-keeps
returns-in-Member-clause-keeps c = c.value-in-Member.ensures.keeps

pub returns-in-Arrow-clause-code : goal.returns-in-Arrow-clause-code
returns-in-Arrow-clause-code c = λ w env m n is hk hd.
    subst (λ (x : Form). IfOk c.value-in-Arrow.result (λ r. Leads c.args.out.now c.value-in-Arrow.new.out (effect_code (form_of x c.args.e.now.pos) w env m n) (literal_count env.scope (form_of x c.args.e.now.pos)) r (m + expr_jumps (form_of x c.args.e.now.pos)))) (sym c.in-Arrow.is)
    (subst (λ (x : Form). IfOk c.value-in-Arrow.result (λ r. Leads c.args.out.now c.value-in-Arrow.new.out (value_code (form_of x c.args.e.now.pos) w env m n) (literal_count env.scope (form_of x c.args.e.now.pos)) r (m + expr_jumps (form_of x c.args.e.now.pos)))) c.in-Arrow.is (c.value-in-Arrow.ensures.code w env m n is hk hd))

pub returns-in-Arrow-clause-keeps : goal.returns-in-Arrow-clause-keeps
returns-in-Arrow-clause-keeps c = c.value-in-Arrow.ensures.keeps
