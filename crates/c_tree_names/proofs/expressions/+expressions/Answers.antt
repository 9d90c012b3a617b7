use Rattle.std.proofs.Common.{◌≡◌, ◌<◌, ◌≤◌, List, [], ◌∷◌, ◌++◌, map, get_or, length, refl, sym, ap, subst}
use Rattle.std.specs.Prelude.{OnOk}
use Rattle.c_syntax.specs.Plain as tree
use Rattle.c_syntax.specs.Plain.{CExpr, CExprs, exprs}
use Rattle.c_syntax.specs.View.{form_of, expr_of, exprs_of, ty_of}
use Rattle.c_syntax.specs.declared.tree.Expr.{Expr}
use Rattle.c_syntax.specs.declared.tree.Exprs.{out-Exprs}
use Rattle.c_syntax.specs.declared.tree.Form.{Form}
use Rattle.c_helpers.specs.Names.{names_in, names_in_all}
use Rattle.c_tree_names.specs.Added.{texts, Added}
use Rattle.c_tree_names.proofs.AddedLemmas.{none_added, both_added, drop_at, more_added, all_added}
use Rattle.c_tree_names.proofs.RowLemmas.{exprs_view}
use Rattle.c_tree_names.proofs.expressions.+expressions.Goals as goal

pub add_expression-returns-in-Number : goal.add_expression-returns-in-Number
add_expression-returns-in-Number t c =
    let old = c.args.names.now.items in
    let e = c.args.e.now in
    subst (λ (f : Form). Added old old (names_in (form_of f e.pos))) (sym c.in-Number.is) (none_added old)

pub add_expression-returns-in-Str : goal.add_expression-returns-in-Str
add_expression-returns-in-Str t c =
    let old = c.args.names.now.items in
    let e = c.args.e.now in
    subst (λ (f : Form). Added old old (names_in (form_of f e.pos))) (sym c.in-Str.is) (none_added old)

pub add_expression-returns-in-Null : goal.add_expression-returns-in-Null
add_expression-returns-in-Null t c =
    let old = c.args.names.now.items in
    let e = c.args.e.now in
    subst (λ (f : Form). Added old old (names_in (form_of f e.pos))) (sym c.in-Null.is) (none_added old)

pub add_expression-returns-in-SizeTy : goal.add_expression-returns-in-SizeTy
add_expression-returns-in-SizeTy t c =
    let old = c.args.names.now.items in
    let e = c.args.e.now in
    subst (λ (f : Form). Added old old (names_in (form_of f e.pos))) (sym c.in-SizeTy.is) (none_added old)

pub add_expression-returns-in-SizeOf : goal.add_expression-returns-in-SizeOf
add_expression-returns-in-SizeOf t c =
    let old = c.args.names.now.items in
    let e = c.args.e.now in
    subst (λ (f : Form). Added old old (names_in (form_of f e.pos))) (sym c.in-SizeOf.is) (none_added old)

pub add_expression-returns-in-Name : goal.add_expression-returns-in-Name
add_expression-returns-in-Name t c =
    let old = c.args.names.now.items in
    let e = c.args.e.now in
    let all = λ (x : CExpr). OnOk c.add_name.result (Added old c.add_name.new.names.items (names_in x)) in
    subst (λ (f : Form). all (form_of f e.pos)) (sym c.in-Name.is)
    (subst (λ (name : List _). OnOk c.add_name.result (Added old c.add_name.new.names.items (name ∷ []))) c.as_bytes.ensures c.add_name.ensures)

pub add_expression-returns-in-Unary : goal.add_expression-returns-in-Unary
add_expression-returns-in-Unary t c =
    let old = c.args.names.now.items in
    let e = c.args.e.now in
    let all = λ (x : CExpr). OnOk c.add_expression.result (Added old c.add_expression.new.names.items (names_in x)) in
    subst (λ (f : Form). all (form_of f e.pos)) (sym c.in-Unary.is)
    (subst (λ (x : Expr). all (tree.Unary e.pos c.in-Unary._op (expr_of x))) c.deref.ensures
    c.add_expression.ensures)

pub add_expression-returns-in-Step : goal.add_expression-returns-in-Step
add_expression-returns-in-Step t c =
    let old = c.args.names.now.items in
    let e = c.args.e.now in
    let all = λ (x : CExpr). OnOk c.add_expression-in-Step.result (Added old c.add_expression-in-Step.new.names.items (names_in x)) in
    subst (λ (f : Form). all (form_of f e.pos)) (sym c.in-Step.is)
    (subst (λ (x : Expr). all (tree.Step e.pos c.in-Step._op (expr_of x))) c.deref-in-Step.ensures
    c.add_expression-in-Step.ensures)

pub add_expression-returns-in-Binary : goal.add_expression-returns-in-Binary
add_expression-returns-in-Binary t c =
    let old = c.args.names.now.items in
    let e = c.args.e.now in
    let all = λ (x : CExpr). OnOk c.add_two.result (Added old c.add_two.new.names.items (names_in x)) in
    subst (λ (f : Form). all (form_of f e.pos)) (sym c.in-Binary.is)
    (subst (λ (x : Expr). all (tree.Binary e.pos c.in-Binary._op (expr_of x) (expr_of c.in-Binary.b.value))) c.deref-in-Binary.ensures
    (subst (λ (x : Expr). all (tree.Binary e.pos c.in-Binary._op (expr_of c.deref-in-Binary.result.now) (expr_of x))) c.deref-in-Binary-2.ensures
    c.add_two.ensures))

pub add_expression-returns-in-Assign : goal.add_expression-returns-in-Assign
add_expression-returns-in-Assign t c =
    let old = c.args.names.now.items in
    let e = c.args.e.now in
    let all = λ (x : CExpr). OnOk c.add_two-in-Assign.result (Added old c.add_two-in-Assign.new.names.items (names_in x)) in
    subst (λ (f : Form). all (form_of f e.pos)) (sym c.in-Assign.is)
    (subst (λ (x : Expr). all (tree.Assign e.pos c.in-Assign._op (expr_of x) (expr_of c.in-Assign.b.value))) c.deref-in-Assign.ensures
    (subst (λ (x : Expr). all (tree.Assign e.pos c.in-Assign._op (expr_of c.deref-in-Assign.result.now) (expr_of x))) c.deref-in-Assign-2.ensures
    c.add_two-in-Assign.ensures))

pub add_expression-returns-in-Cond : goal.add_expression-returns-in-Cond
add_expression-returns-in-Cond t c =
    let old = c.args.names.now.items in
    let e = c.args.e.now in
    let all = λ (x : CExpr). OnOk c.add_three.result (Added old c.add_three.new.names.items (names_in x)) in
    subst (λ (f : Form). all (form_of f e.pos)) (sym c.in-Cond.is)
    (subst (λ (x : Expr). all (tree.Cond e.pos (expr_of x) (expr_of c.in-Cond.b.value) (expr_of c.in-Cond.c.value))) c.deref-in-Cond.ensures
    (subst (λ (x : Expr). all (tree.Cond e.pos (expr_of c.deref-in-Cond.result.now) (expr_of x) (expr_of c.in-Cond.c.value))) c.deref-in-Cond-2.ensures
    (subst (λ (x : Expr). all (tree.Cond e.pos (expr_of c.deref-in-Cond.result.now) (expr_of c.deref-in-Cond-2.result.now) (expr_of x))) c.deref-in-Cond-3.ensures
    c.add_three.ensures)))

pub add_expression-returns-in-Comma : goal.add_expression-returns-in-Comma
add_expression-returns-in-Comma t c =
    let old = c.args.names.now.items in
    let e = c.args.e.now in
    let all = λ (x : CExpr). OnOk c.add_two-in-Comma.result (Added old c.add_two-in-Comma.new.names.items (names_in x)) in
    subst (λ (f : Form). all (form_of f e.pos)) (sym c.in-Comma.is)
    (subst (λ (x : Expr). all (tree.Comma e.pos (expr_of x) (expr_of c.in-Comma.b.value))) c.deref-in-Comma.ensures
    (subst (λ (x : Expr). all (tree.Comma e.pos (expr_of c.deref-in-Comma.result.now) (expr_of x))) c.deref-in-Comma-2.ensures
    c.add_two-in-Comma.ensures))

pub add_expression-returns-in-Cast : goal.add_expression-returns-in-Cast
add_expression-returns-in-Cast t c =
    let old = c.args.names.now.items in
    let e = c.args.e.now in
    let all = λ (x : CExpr). OnOk c.add_expression-in-Cast.result (Added old c.add_expression-in-Cast.new.names.items (names_in x)) in
    subst (λ (f : Form). all (form_of f e.pos)) (sym c.in-Cast.is)
    (subst (λ (x : Expr). all (tree.Cast e.pos (ty_of c.in-Cast._ty.value) (expr_of x))) c.deref-in-Cast.ensures
    c.add_expression-in-Cast.ensures)

pub add_expression-returns-in-Index : goal.add_expression-returns-in-Index
add_expression-returns-in-Index t c =
    let old = c.args.names.now.items in
    let e = c.args.e.now in
    let all = λ (x : CExpr). OnOk c.add_two-in-Index.result (Added old c.add_two-in-Index.new.names.items (names_in x)) in
    subst (λ (f : Form). all (form_of f e.pos)) (sym c.in-Index.is)
    (subst (λ (x : Expr). all (tree.Index e.pos (expr_of x) (expr_of c.in-Index.b.value))) c.deref-in-Index.ensures
    (subst (λ (x : Expr). all (tree.Index e.pos (expr_of c.deref-in-Index.result.now) (expr_of x))) c.deref-in-Index-2.ensures
    c.add_two-in-Index.ensures))

pub add_expression-returns-in-Call : goal.add_expression-returns-in-Call
add_expression-returns-in-Call t c =
    let old = c.args.names.now.items in
    let e = c.args.e.now in
    let all = λ (x : CExpr). OnOk c.add_call.result (Added old c.add_call.new.names.items (names_in x)) in
    subst (λ (f : Form). all (form_of f e.pos)) (sym c.in-Call.is)
    (subst (λ (x : Expr). all (tree.Call e.pos (expr_of x) (exprs_of c.in-Call.arguments))) c.deref-in-Call.ensures
    c.add_call.ensures)

pub add_expression-returns-in-Member : goal.add_expression-returns-in-Member
add_expression-returns-in-Member t c =
    let old = c.args.names.now.items in
    let e = c.args.e.now in
    let all = λ (x : CExpr). OnOk c.add_expression-in-Member.result (Added old c.add_expression-in-Member.new.names.items (names_in x)) in
    subst (λ (f : Form). all (form_of f e.pos)) (sym c.in-Member.is)
    (subst (λ (x : Expr). all (tree.Member e.pos (expr_of x) c.in-Member._name)) c.deref-in-Member.ensures
    c.add_expression-in-Member.ensures)

pub add_expression-returns-in-Arrow : goal.add_expression-returns-in-Arrow
add_expression-returns-in-Arrow t c =
    let old = c.args.names.now.items in
    let e = c.args.e.now in
    let all = λ (x : CExpr). OnOk c.add_expression-in-Arrow.result (Added old c.add_expression-in-Arrow.new.names.items (names_in x)) in
    subst (λ (f : Form). all (form_of f e.pos)) (sym c.in-Arrow.is)
    (subst (λ (x : Expr). all (tree.Arrow e.pos (expr_of x) c.in-Arrow._name)) c.deref-in-Arrow.ensures
    c.add_expression-in-Arrow.ensures)

pub add_two-returns : goal.add_two-returns
add_two-returns t c =
    both_added c.add_expression-2.result c.args.names.now.items c.add_expression.new.names.items c.add_expression-2.new.names.items (names_in (expr_of c.args.a.now)) (names_in (expr_of c.args.b.now)) c.in_ok-add_expression.ensures c.add_expression-2.ensures

pub add_three-returns : goal.add_three-returns
add_three-returns t c =
    both_added c.add_two.result c.args.names.now.items c.add_expression.new.names.items c.add_two.new.names.items (names_in (expr_of c.args.a.now)) (names_in (expr_of c.args.b.now) ++ names_in (expr_of c.args.d.now)) c.in_ok-add_expression.ensures c.add_two.ensures

pub add_call-returns : goal.add_call-returns
add_call-returns t c =
    both_added c.add_all.result c.args.names.now.items c.add_expression.new.names.items c.add_all.new.names.items (names_in (expr_of c.args.f.now)) (names_in_all (exprs_of c.args.arguments.now)) c.in_ok-add_expression.ensures c.add_all.ensures

pub add_all-loop-e-init : goal.add_all-loop-e-init
add_all-loop-e-init t c =
    ap (λ (z : CExprs). texts c.args.names.now.items ++ names_in_all z) (sym (exprs_view c.args.all.now))

pub add_all-loop-e-preserved : goal.add_all-loop-e-preserved
add_all-loop-e-preserved t c =
    let items = (out-Exprs c.args.all.now).items.items in
    let i = c.loop-e.e-index in
    let x = c.e-item.result in
    let within : i < length items = subst (λ (l : List Expr). i < length l) c.deref-e-items.ensures.value c.loop-e-test.true in
    let next : x ≡ get_or items i x = subst (λ (l : List Expr). x ≡ get_or l i x) c.deref-e-items.ensures.value c.e-item.is in
    more_added (λ (l : List Expr). names_in_all (exprs (map expr_of l))) (λ (y : Expr). names_in (expr_of y)) _ c.loop-e.names.items c.add_expression.new.names.items items i x (λ y ys. refl) (drop_at items i x within next) c.in_ok-add_expression.ensures c.loop-e.invariant

pub add_all-returns : goal.add_all-returns
add_all-returns t c =
    let items = (out-Exprs c.args.all.now).items.items in
    let i = c.loop-e.e-index in
    let past : length items ≤ i = subst (λ (l : List Expr). length l ≤ i) c.deref-e-items.ensures.value c.loop-e-test.false in
    all_added (λ (l : List Expr). names_in_all (exprs (map expr_of l))) c.args.names.now.items c.loop-e.names.items (names_in_all (exprs_of c.args.all.now)) items i past refl c.loop-e.invariant
