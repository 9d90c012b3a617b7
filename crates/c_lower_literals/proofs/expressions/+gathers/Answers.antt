use Rattle.std.proofs.Common.{◌≡◌, ◌<◌, ◌≤◌, ◌+◌, Bool, false, List, map, drop, get_or, length, sym, ap, subst, ◌∙◌}
use Rattle.std.specs.Prelude.{OnOk}
use Rattle.std.proofs.lemmas.List.{drop_all}
use Rattle.c_syntax.specs.Plain.{CExprs, exprs}
use Rattle.c_syntax.specs.View.{form_of, expr_of, exprs_of}
use Rattle.c_syntax.specs.declared.tree.Expr.{Expr}
use Rattle.c_syntax.specs.declared.tree.Exprs.{out-Exprs}
use Rattle.c_syntax.specs.declared.tree.Form.{Form}
use Rattle.c_types.specs.Scope.{Scope}
use Rattle.c_eval.specs.LiteralsIn.{literals_in}
use Rattle.c_expressions.proofs.RowLemmas.{exprs_view}
use Rattle.c_expressions.proofs.GoingLemmas.{drop_at}
use Rattle.c_applied.specs.Calls.{argument_literals, given_literals}
use Rattle.c_lower_literals.specs.Gathered.{Adds}
use Rattle.c_lower_literals.proofs.GatherLemmas.{none_added, adds_then, adds_same, on_ok}
use Rattle.c_lower_literals.proofs.ArgumentLemmas.{none_yet, one_more, all_added, one_given, none_given}
use Rattle.c_lower_literals.proofs.expressions.+gathers.Goals as goal

pub both_literals-returns : goal.both_literals-returns
both_literals-returns t c = λ table s fits. on_ok c.expression_literals-2.result (λ g. adds_then (c.in_ok-expression_literals.ensures table s fits) g) (c.expression_literals-2.ensures table s fits)

pub choice_literals-returns : goal.choice_literals-returns
choice_literals-returns t c = λ table s fits. on_ok c.both_literals.result (λ g. adds_then (c.in_ok-expression_literals.ensures table s fits) g) (c.both_literals.ensures table s fits)

pub call_literals-returns : goal.call_literals-returns
call_literals-returns t c = λ table s fits.
    on_ok c.arguments_literals.result (λ g.
    adds_then (c.in_ok-expression_literals.ensures table s fits) (adds_same (ap (λ (b : Bool). given_literals b s (exprs_of c.args.es.now)) (c.names_printf.ensures table s fits)) g)) (c.arguments_literals.ensures table s fits)

pub argument_literals-returns-then-skips : goal.argument_literals-returns-then-skips
argument_literals-returns-then-skips t c = λ table s fits. subst (λ (b : Bool). Adds c.args.texts.now.items c.args.texts.now.items (argument_literals b s (expr_of c.args.e.now))) (sym c.if-skips.true) (none_added c.args.texts.now.items)

pub argument_literals-returns-else-skips : goal.argument_literals-returns-else-skips
argument_literals-returns-else-skips t c = λ table s fits.
    subst (λ (b : Bool). OnOk c.expression_literals.result (Adds c.args.texts.now.items c.expression_literals.new.texts.items (argument_literals b s (expr_of c.args.e.now)))) (sym c.if-skips.false) (c.expression_literals.ensures table s fits)

pub arguments_literals-loop-e-init : goal.arguments_literals-loop-e-init
arguments_literals-loop-e-init t c =
    let items = (out-Exprs c.args.es.now).items.items in
    let printed = c.args.printed in
    none_yet c.args.declared.now c.args.texts.now.items (λ (s : Scope). given_literals printed s (exprs (map expr_of items))) (λ (s : Scope). given_literals printed s (exprs_of c.args.es.now))
    (λ s. ap (λ (es : CExprs). given_literals printed s es) (exprs_view c.args.es.now))

pub arguments_literals-loop-e-preserved : goal.arguments_literals-loop-e-preserved
arguments_literals-loop-e-preserved t c =
    let items = (out-Exprs c.args.es.now).items.items in
    let i = c.loop-e.e-index in
    let x = c.e-item.result in
    let skips = c.loop-e.skips in
    let rest = exprs (map expr_of (drop (i + 1) items)) in
    let within : i < length items = subst (λ (l : List Expr). i < length l) c.deref-e-items.ensures.value c.loop-e-test.true in
    let next : x ≡ get_or items i x = subst (λ (l : List Expr). x ≡ get_or l i x) c.deref-e-items.ensures.value c.e-item.is in
    one_more (λ (s : Scope). given_literals skips s (exprs (map expr_of (drop i items)))) (λ (s : Scope). argument_literals skips s (expr_of x)) (λ (s : Scope). given_literals false s rest) (λ (s : Scope). given_literals c.args.printed s (exprs_of c.args.es.now))
    c.loop-e.invariant (λ s. ap (λ (l : List Expr). given_literals skips s (exprs (map expr_of l))) (drop_at items i x within next) ∙ one_given skips s (expr_of x) rest) (λ table s fits. c.in_ok-argument_literals.ensures table s fits)

pub arguments_literals-returns : goal.arguments_literals-returns
arguments_literals-returns t c = λ table s fits.
    let items = (out-Exprs c.args.es.now).items.items in
    let i = c.loop-e.e-index in
    let skips = c.loop-e.skips in
    let past : length items ≤ i = subst (λ (l : List Expr). length l ≤ i) c.deref-e-items.ensures.value c.loop-e-test.false in
    all_added (λ (s : Scope). given_literals skips s (exprs (map expr_of (drop i items)))) (λ (s : Scope). given_literals c.args.printed s (exprs_of c.args.es.now)) c.loop-e.invariant
    (λ s. ap (λ (l : List Expr). given_literals skips s (exprs (map expr_of l))) (drop_all i items past) ∙ none_given skips s) table s fits

pub expression_literals-returns-in-Number : goal.expression_literals-returns-in-Number
expression_literals-returns-in-Number t c = λ table s fits.
    let xs = c.args.texts.now.items in
    subst (λ (f : Form). Adds xs xs (literals_in s (form_of f c.args.e.now.pos))) (sym c.in-Number.is) (none_added xs)

pub expression_literals-returns-in-Null : goal.expression_literals-returns-in-Null
expression_literals-returns-in-Null t c = λ table s fits.
    let xs = c.args.texts.now.items in
    subst (λ (f : Form). Adds xs xs (literals_in s (form_of f c.args.e.now.pos))) (sym c.in-Null.is) (none_added xs)

pub expression_literals-returns-in-Name : goal.expression_literals-returns-in-Name
expression_literals-returns-in-Name t c = λ table s fits.
    let xs = c.args.texts.now.items in
    subst (λ (f : Form). Adds xs xs (literals_in s (form_of f c.args.e.now.pos))) (sym c.in-Name.is) (none_added xs)

pub expression_literals-returns-in-SizeTy : goal.expression_literals-returns-in-SizeTy
expression_literals-returns-in-SizeTy t c = λ table s fits.
    let xs = c.args.texts.now.items in
    subst (λ (f : Form). Adds xs xs (literals_in s (form_of f c.args.e.now.pos))) (sym c.in-SizeTy.is) (none_added xs)

pub expression_literals-returns-in-SizeOf : goal.expression_literals-returns-in-SizeOf
expression_literals-returns-in-SizeOf t c = λ table s fits.
    let xs = c.args.texts.now.items in
    subst (λ (f : Form). Adds xs xs (literals_in s (form_of f c.args.e.now.pos))) (sym c.in-SizeOf.is) (none_added xs)
