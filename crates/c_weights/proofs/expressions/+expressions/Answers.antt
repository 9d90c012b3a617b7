use Rattle.std.proofs.Common.{◌≡◌, ◌<◌, ◌≤◌, ◌+◌, ◌-◌, ℕ, List, [], ◌∷◌, map, drop, get_or, length, Option, refl, sym, ap, subst, ◌∙◌, arith, rules, if◌then◌else◌}
use Rattle.std.specs.Prelude.{Ok, Err, IfOk, Bool, true, false}
use Rattle.std.proofs.lemmas.Grind.{common_steps, elements}
use Rattle.c_syntax.specs.Plain as tree
use Rattle.c_syntax.specs.Plain.{CExpr, CTy, exprs, tys}
use Rattle.c_syntax.specs.View.{form_of, expr_of, exprs_of, ty_of}
use Rattle.c_syntax.specs.declared.tree.Expr.{Expr}
use Rattle.c_syntax.specs.declared.tree.Exprs.{out-Exprs}
use Rattle.c_syntax.specs.declared.tree.Form.{Form}
use Rattle.c_syntax.specs.declared.tree.Form.TheFolds.{the_lemmas}
use Rattle.c_syntax.specs.declared.tree.Ty.{Ty}
use Rattle.c_syntax.specs.declared.tree.Ty.TheVariants as type
use Rattle.c_types.specs.Scope.{Scope}
use Rattle.c_types.specs.Expressions.{written, names_function}
use Rattle.c_types.specs.Census.{expr_sum, exprs_sum, ty_sum, tys_sum}
use Rattle.c_declared.proofs.HeldLemmas.{holds_kept, held_kept}
use Rattle.c_expressions.specs.Named.{tys_of}
use Rattle.c_expressions.proofs.GoingLemmas.{drop_at}
use Rattle.c_expressions.proofs.RowLemmas.{exprs_view, function_made}
use Rattle.std.proofs.lemmas.List.{drop_all}
use Rattle.c_operands.proofs.NameLemmas.{fits_kept}
use Rattle.c_expressions.proofs.KeptLemmas.{layouts_at}
use Rattle.c_weights.specs.declared.sum.Sum.{Sum}
use Rattle.c_weights.specs.Sums.{AreCounted}
use Rattle.c_weights.proofs.SumLemmas.{sums_same, counted_same, counted_here, ok_same, counted_first, counted_both, string_sums, written_counted, called_directly, called_through}
use Rattle.c_weights.proofs.GoingLemmas.{begun, goes_on, done}
use Rattle.c_weights.proofs.expressions.+expressions.Goals as goal

pub count-returns-in-Number : goal.count-returns-in-Number
count-returns-in-Number t c =
    let old = c.args.types.now in
    let d = c.args.declared.now in
    let e = c.args.e.now in
    let r = c.node.result in
    subst (λ (f : Form). AreCounted old old d r (λ s k. expr_sum k s (form_of f e.pos))) (sym c.in-Number.is)
    (counted_here old d r (λ s k. expr_sum k s (tree.Number e.pos c.in-Number._value c.in-Number._unsigned)) (λ s. sums_same r (λ k. k.node) (λ k. expr_sum k s (tree.Number e.pos c.in-Number._value c.in-Number._unsigned)) (refl, refl, refl, refl) c.node.ensures))

pub count-returns-in-Null : goal.count-returns-in-Null
count-returns-in-Null t c =
    let old = c.args.types.now in
    let d = c.args.declared.now in
    let e = c.args.e.now in
    let r = c.node-in-Null.result in
    subst (λ (f : Form). AreCounted old old d r (λ s k. expr_sum k s (form_of f e.pos))) (sym c.in-Null.is)
    (counted_here old d r (λ s k. expr_sum k s (tree.Null e.pos)) (λ s. sums_same r (λ k. k.node) (λ k. expr_sum k s (tree.Null e.pos)) (refl, refl, refl, refl) c.node-in-Null.ensures))

pub count-returns-in-Name : goal.count-returns-in-Name
count-returns-in-Name t c =
    let old = c.args.types.now in
    let d = c.args.declared.now in
    let e = c.args.e.now in
    let r = c.node-in-Name.result in
    subst (λ (f : Form). AreCounted old old d r (λ s k. expr_sum k s (form_of f e.pos))) (sym c.in-Name.is)
    (counted_here old d r (λ s k. expr_sum k s (tree.Var e.pos c.in-Name._name)) (λ s. sums_same r (λ k. k.node) (λ k. expr_sum k s (tree.Var e.pos c.in-Name._name)) (refl, refl, refl, refl) c.node-in-Name.ensures))

pub count-returns-in-Str : goal.count-returns-in-Str
count-returns-in-Str t c =
    let old = c.args.types.now in
    let d = c.args.declared.now in
    let e = c.args.e.now in
    let r = c.string.result in
    let text = c.in-Str.text in
    subst (λ (f : Form). AreCounted old old d r (λ s k. expr_sum k s (form_of f e.pos))) (sym c.in-Str.is)
    (counted_here old d r (λ s k. expr_sum k s (tree.Str e.pos text)) (λ s. string_sums r (length c.as_bytes.result.now) (λ k. expr_sum k s (tree.Str e.pos text)) c.string.ensures.weight c.string.ensures.wide c.string.ensures.nodes c.string.ensures.words (ap (λ (l : List ℕ). 1 + (length l + 1)) (sym c.as_bytes.ensures)) refl refl refl))

pub count-returns-in-Unary : goal.count-returns-in-Unary
count-returns-in-Unary t c =
    let old = c.args.types.now in
    let d = c.args.declared.now in
    let e = c.args.e.now in
    let q = c.count_one.result in
    let new = c.count_one.new.types in
    let all = λ (x : CExpr). IfOk q (λ r. AreCounted old new d r (λ s k. expr_sum k s x)) in
    subst (λ (f : Form). all (form_of f e.pos)) (sym c.in-Unary.is)
    (subst (λ (x : Expr). all (tree.Unary e.pos c.in-Unary._op (expr_of x))) c.deref.ensures
    (ok_same old new d q (λ s k. k.node + expr_sum k s (expr_of c.deref.result.now)) (λ s k. expr_sum k s (tree.Unary e.pos c.in-Unary._op (expr_of c.deref.result.now))) (λ s. (refl, refl, refl, refl)) c.count_one.ensures))

pub count-returns-in-Step : goal.count-returns-in-Step
count-returns-in-Step t c =
    let old = c.args.types.now in
    let d = c.args.declared.now in
    let e = c.args.e.now in
    let q = c.count_one-in-Step.result in
    let new = c.count_one-in-Step.new.types in
    let all = λ (x : CExpr). IfOk q (λ r. AreCounted old new d r (λ s k. expr_sum k s x)) in
    subst (λ (f : Form). all (form_of f e.pos)) (sym c.in-Step.is)
    (subst (λ (x : Expr). all (tree.Step e.pos c.in-Step._op (expr_of x))) c.deref-in-Step.ensures
    (ok_same old new d q (λ s k. k.node + expr_sum k s (expr_of c.deref-in-Step.result.now)) (λ s k. expr_sum k s (tree.Step e.pos c.in-Step._op (expr_of c.deref-in-Step.result.now))) (λ s. (refl, refl, refl, refl)) c.count_one-in-Step.ensures))

pub count-returns-in-SizeOf : goal.count-returns-in-SizeOf
count-returns-in-SizeOf t c =
    let old = c.args.types.now in
    let d = c.args.declared.now in
    let e = c.args.e.now in
    let q = c.count_one-in-SizeOf.result in
    let new = c.count_one-in-SizeOf.new.types in
    let all = λ (x : CExpr). IfOk q (λ r. AreCounted old new d r (λ s k. expr_sum k s x)) in
    subst (λ (f : Form). all (form_of f e.pos)) (sym c.in-SizeOf.is)
    (subst (λ (x : Expr). all (tree.SizeOf e.pos (expr_of x))) c.deref-in-SizeOf.ensures
    (ok_same old new d q (λ s k. k.node + expr_sum k s (expr_of c.deref-in-SizeOf.result.now)) (λ s k. expr_sum k s (tree.SizeOf e.pos (expr_of c.deref-in-SizeOf.result.now))) (λ s. (refl, refl, refl, refl)) c.count_one-in-SizeOf.ensures))

pub count-returns-in-Member : goal.count-returns-in-Member
count-returns-in-Member t c =
    let old = c.args.types.now in
    let d = c.args.declared.now in
    let e = c.args.e.now in
    let q = c.count_one-in-Member.result in
    let new = c.count_one-in-Member.new.types in
    let all = λ (x : CExpr). IfOk q (λ r. AreCounted old new d r (λ s k. expr_sum k s x)) in
    subst (λ (f : Form). all (form_of f e.pos)) (sym c.in-Member.is)
    (subst (λ (x : Expr). all (tree.Member e.pos (expr_of x) c.in-Member._name)) c.deref-in-Member.ensures
    (ok_same old new d q (λ s k. k.node + expr_sum k s (expr_of c.deref-in-Member.result.now)) (λ s k. expr_sum k s (tree.Member e.pos (expr_of c.deref-in-Member.result.now) c.in-Member._name)) (λ s. (refl, refl, refl, refl)) c.count_one-in-Member.ensures))

pub count-returns-in-Arrow : goal.count-returns-in-Arrow
count-returns-in-Arrow t c =
    let old = c.args.types.now in
    let d = c.args.declared.now in
    let e = c.args.e.now in
    let q = c.count_one-in-Arrow.result in
    let new = c.count_one-in-Arrow.new.types in
    let all = λ (x : CExpr). IfOk q (λ r. AreCounted old new d r (λ s k. expr_sum k s x)) in
    subst (λ (f : Form). all (form_of f e.pos)) (sym c.in-Arrow.is)
    (subst (λ (x : Expr). all (tree.Arrow e.pos (expr_of x) c.in-Arrow._name)) c.deref-in-Arrow.ensures
    (ok_same old new d q (λ s k. k.node + expr_sum k s (expr_of c.deref-in-Arrow.result.now)) (λ s k. expr_sum k s (tree.Arrow e.pos (expr_of c.deref-in-Arrow.result.now) c.in-Arrow._name)) (λ s. (refl, refl, refl, refl)) c.count_one-in-Arrow.ensures))

pub count-returns-in-Binary : goal.count-returns-in-Binary
count-returns-in-Binary t c =
    let old = c.args.types.now in
    let d = c.args.declared.now in
    let e = c.args.e.now in
    let q = c.count_two.result in
    let new = c.count_two.new.types in
    let all = λ (x : CExpr). IfOk q (λ r. AreCounted old new d r (λ s k. expr_sum k s x)) in
    subst (λ (f : Form). all (form_of f e.pos)) (sym c.in-Binary.is)
    (subst (λ (x : Expr). all (tree.Binary e.pos c.in-Binary._op (expr_of x) (expr_of c.in-Binary.b.value))) c.deref-in-Binary.ensures
    (subst (λ (x : Expr). all (tree.Binary e.pos c.in-Binary._op (expr_of c.deref-in-Binary.result.now) (expr_of x))) c.deref-in-Binary-2.ensures
    (ok_same old new d q (λ s k. k.node + expr_sum k s (expr_of c.deref-in-Binary.result.now) + expr_sum k s (expr_of c.deref-in-Binary-2.result.now)) (λ s k. expr_sum k s (tree.Binary e.pos c.in-Binary._op (expr_of c.deref-in-Binary.result.now) (expr_of c.deref-in-Binary-2.result.now))) (λ s. (refl, refl, refl, refl)) c.count_two.ensures)))

pub count-returns-in-Assign : goal.count-returns-in-Assign
count-returns-in-Assign t c =
    let old = c.args.types.now in
    let d = c.args.declared.now in
    let e = c.args.e.now in
    let q = c.count_two-in-Assign.result in
    let new = c.count_two-in-Assign.new.types in
    let all = λ (x : CExpr). IfOk q (λ r. AreCounted old new d r (λ s k. expr_sum k s x)) in
    subst (λ (f : Form). all (form_of f e.pos)) (sym c.in-Assign.is)
    (subst (λ (x : Expr). all (tree.Assign e.pos c.in-Assign._op (expr_of x) (expr_of c.in-Assign.b.value))) c.deref-in-Assign.ensures
    (subst (λ (x : Expr). all (tree.Assign e.pos c.in-Assign._op (expr_of c.deref-in-Assign.result.now) (expr_of x))) c.deref-in-Assign-2.ensures
    (ok_same old new d q (λ s k. k.node + expr_sum k s (expr_of c.deref-in-Assign.result.now) + expr_sum k s (expr_of c.deref-in-Assign-2.result.now)) (λ s k. expr_sum k s (tree.Assign e.pos c.in-Assign._op (expr_of c.deref-in-Assign.result.now) (expr_of c.deref-in-Assign-2.result.now))) (λ s. (refl, refl, refl, refl)) c.count_two-in-Assign.ensures)))

pub count-returns-in-Comma : goal.count-returns-in-Comma
count-returns-in-Comma t c =
    let old = c.args.types.now in
    let d = c.args.declared.now in
    let e = c.args.e.now in
    let q = c.count_two-in-Comma.result in
    let new = c.count_two-in-Comma.new.types in
    let all = λ (x : CExpr). IfOk q (λ r. AreCounted old new d r (λ s k. expr_sum k s x)) in
    subst (λ (f : Form). all (form_of f e.pos)) (sym c.in-Comma.is)
    (subst (λ (x : Expr). all (tree.Comma e.pos (expr_of x) (expr_of c.in-Comma.b.value))) c.deref-in-Comma.ensures
    (subst (λ (x : Expr). all (tree.Comma e.pos (expr_of c.deref-in-Comma.result.now) (expr_of x))) c.deref-in-Comma-2.ensures
    (ok_same old new d q (λ s k. k.node + expr_sum k s (expr_of c.deref-in-Comma.result.now) + expr_sum k s (expr_of c.deref-in-Comma-2.result.now)) (λ s k. expr_sum k s (tree.Comma e.pos (expr_of c.deref-in-Comma.result.now) (expr_of c.deref-in-Comma-2.result.now))) (λ s. (refl, refl, refl, refl)) c.count_two-in-Comma.ensures)))

pub count-returns-in-Index : goal.count-returns-in-Index
count-returns-in-Index t c =
    let old = c.args.types.now in
    let d = c.args.declared.now in
    let e = c.args.e.now in
    let q = c.count_two-in-Index.result in
    let new = c.count_two-in-Index.new.types in
    let all = λ (x : CExpr). IfOk q (λ r. AreCounted old new d r (λ s k. expr_sum k s x)) in
    subst (λ (f : Form). all (form_of f e.pos)) (sym c.in-Index.is)
    (subst (λ (x : Expr). all (tree.Index e.pos (expr_of x) (expr_of c.in-Index.b.value))) c.deref-in-Index.ensures
    (subst (λ (x : Expr). all (tree.Index e.pos (expr_of c.deref-in-Index.result.now) (expr_of x))) c.deref-in-Index-2.ensures
    (ok_same old new d q (λ s k. k.node + expr_sum k s (expr_of c.deref-in-Index.result.now) + expr_sum k s (expr_of c.deref-in-Index-2.result.now)) (λ s k. expr_sum k s (tree.Index e.pos (expr_of c.deref-in-Index.result.now) (expr_of c.deref-in-Index-2.result.now))) (λ s. (refl, refl, refl, refl)) c.count_two-in-Index.ensures)))

pub count-returns-in-Cond : goal.count-returns-in-Cond
count-returns-in-Cond t c =
    let old = c.args.types.now in
    let d = c.args.declared.now in
    let e = c.args.e.now in
    let q = c.count_three.result in
    let new = c.count_three.new.types in
    let all = λ (x : CExpr). IfOk q (λ r. AreCounted old new d r (λ s k. expr_sum k s x)) in
    subst (λ (f : Form). all (form_of f e.pos)) (sym c.in-Cond.is)
    (subst (λ (x : Expr). all (tree.Cond e.pos (expr_of x) (expr_of c.in-Cond.b.value) (expr_of c.in-Cond.c.value))) c.deref-in-Cond.ensures
    (subst (λ (x : Expr). all (tree.Cond e.pos (expr_of c.deref-in-Cond.result.now) (expr_of x) (expr_of c.in-Cond.c.value))) c.deref-in-Cond-2.ensures
    (subst (λ (x : Expr). all (tree.Cond e.pos (expr_of c.deref-in-Cond.result.now) (expr_of c.deref-in-Cond-2.result.now) (expr_of x))) c.deref-in-Cond-3.ensures
    (ok_same old new d q (λ s k. k.node + expr_sum k s (expr_of c.deref-in-Cond.result.now) + expr_sum k s (expr_of c.deref-in-Cond-2.result.now) + expr_sum k s (expr_of c.deref-in-Cond-3.result.now)) (λ s k. expr_sum k s (tree.Cond e.pos (expr_of c.deref-in-Cond.result.now) (expr_of c.deref-in-Cond-2.result.now) (expr_of c.deref-in-Cond-3.result.now))) (λ s. (refl, refl, refl, refl)) c.count_three.ensures))))

pub count-returns-in-Cast : goal.count-returns-in-Cast
count-returns-in-Cast t c =
    let old = c.args.types.now in
    let d = c.args.declared.now in
    let e = c.args.e.now in
    let q = c.count_cast.result in
    let new = c.count_cast.new.types in
    let all = λ (x : CExpr). IfOk q (λ r. AreCounted old new d r (λ s k. expr_sum k s x)) in
    subst (λ (f : Form). all (form_of f e.pos)) (sym c.in-Cast.is)
    (subst (λ (x : Ty). all (tree.Cast e.pos (ty_of x) (expr_of c.in-Cast.a.value))) c.deref-in-Cast.ensures
    (subst (λ (x : Expr). all (tree.Cast e.pos (ty_of c.deref-in-Cast.result.now) (expr_of x))) c.deref-in-Cast-2.ensures
    (ok_same old new d q (λ s k. k.expr s (tree.SizeTy e.pos (ty_of c.deref-in-Cast.result.now)) + ty_sum k s (ty_of c.deref-in-Cast.result.now) + expr_sum k s (expr_of c.deref-in-Cast-2.result.now)) (λ s k. expr_sum k s (tree.Cast e.pos (ty_of c.deref-in-Cast.result.now) (expr_of c.deref-in-Cast-2.result.now))) (λ s. (refl, refl, refl, refl)) c.count_cast.ensures)))

pub count-returns-in-SizeTy : goal.count-returns-in-SizeTy
count-returns-in-SizeTy t c =
    let old = c.args.types.now in
    let d = c.args.declared.now in
    let e = c.args.e.now in
    let q = c.count_written.result in
    let new = c.count_written.new.types in
    let all = λ (x : CExpr). IfOk q (λ r. AreCounted old new d r (λ s k. expr_sum k s x)) in
    subst (λ (f : Form). all (form_of f e.pos)) (sym c.in-SizeTy.is)
    (subst (λ (x : Ty). all (tree.SizeTy e.pos (ty_of x))) c.deref-in-SizeTy.ensures
    (ok_same old new d q (λ s k. k.expr s (tree.SizeTy e.pos (ty_of c.deref-in-SizeTy.result.now)) + ty_sum k s (ty_of c.deref-in-SizeTy.result.now)) (λ s k. expr_sum k s (tree.SizeTy e.pos (ty_of c.deref-in-SizeTy.result.now))) (λ s. (refl, refl, refl, refl)) c.count_written.ensures))

pub count-returns-in-Call : goal.count-returns-in-Call
count-returns-in-Call t c =
    let old = c.args.types.now in
    let d = c.args.declared.now in
    let e = c.args.e.now in
    let q = c.count_call.result in
    let new = c.count_call.new.types in
    let all = λ (x : CExpr). IfOk q (λ r. AreCounted old new d r (λ s k. expr_sum k s x)) in
    subst (λ (f : Form). all (form_of f e.pos)) (sym c.in-Call.is)
    (subst (λ (x : Expr). all (tree.Call e.pos (expr_of x) (exprs_of c.in-Call.arguments))) c.deref-in-Call.ensures
    (ok_same old new d q (λ s k. k.node + (if names_function s (expr_of c.deref-in-Call.result.now) then 0 else expr_sum k s (expr_of c.deref-in-Call.result.now)) + exprs_sum k s (exprs_of c.in-Call.arguments)) (λ s k. expr_sum k s (tree.Call e.pos (expr_of c.deref-in-Call.result.now) (exprs_of c.in-Call.arguments))) (λ s. (refl, refl, refl, refl)) c.count_call.ensures))

pub count_one-returns : goal.count_one-returns
count_one-returns t c =
    let old = c.args.types.now in
    let d = c.args.declared.now in
    let new = c.count.new.types in
    counted_first old new d c.node.result c.in_ok-part.part c.plus.result (λ s k. k.node) (λ s k. expr_sum k s (expr_of c.args.a.now)) (λ s. c.node.ensures) c.in_ok-part.ensures c.plus.ensures

pub count_behind-returns : goal.count_behind-returns
count_behind-returns t c =
    let old = c.args.types.now in
    let d = c.args.declared.now in
    let new = c.count_type.new.types in
    counted_first old new d c.node.result c.in_ok-part.part c.plus.result (λ s k. k.node) (λ s k. ty_sum k s (ty_of c.args.t.now)) (λ s. c.node.ensures) c.in_ok-part.ensures c.plus.ensures

pub count_two-count-requires : goal.count_two-count-requires
count_two-count-requires t c =
    let old = c.args.types.now in
    let d = c.args.declared.now in
    (first_of (search (rules, the_lemmas), grind (the_lemmas, arith, common_steps), grind (the_lemmas, arith, elements)), held_kept old c.count_one.new.types d c.in_ok-first.ensures.grows c.in_ok-first.ensures.tags c.requires)

pub count_two-returns : goal.count_two-returns
count_two-returns t c =
    let old = c.args.types.now in
    let d = c.args.declared.now in
    counted_both old c.count_one.new.types c.count.new.types d c.in_ok-first.first c.in_ok-second.second c.plus.result (λ s k. k.node + expr_sum k s (expr_of c.args.a.now)) (λ s k. expr_sum k s (expr_of c.args.b.now)) c.in_ok-first.ensures c.in_ok-second.ensures c.plus.ensures

pub count_three-count-requires : goal.count_three-count-requires
count_three-count-requires t c =
    let old = c.args.types.now in
    let d = c.args.declared.now in
    (first_of (search (rules, the_lemmas), grind (the_lemmas, arith, common_steps), grind (the_lemmas, arith, elements)), held_kept old c.count_two.new.types d c.in_ok-first.ensures.grows c.in_ok-first.ensures.tags c.requires)

pub count_three-returns : goal.count_three-returns
count_three-returns t c =
    let old = c.args.types.now in
    let d = c.args.declared.now in
    counted_both old c.count_two.new.types c.count.new.types d c.in_ok-first.first c.in_ok-second.second c.plus.result (λ s k. k.node + expr_sum k s (expr_of c.args.a.now) + expr_sum k s (expr_of c.args.b.now)) (λ s k. expr_sum k s (expr_of c.args.d.now)) c.in_ok-first.ensures c.in_ok-second.ensures c.plus.ensures

pub count_cast-count-requires : goal.count_cast-count-requires
count_cast-count-requires t c =
    let old = c.args.types.now in
    let d = c.args.declared.now in
    (first_of (search (rules, the_lemmas), grind (the_lemmas, arith, common_steps), grind (the_lemmas, arith, elements)), held_kept old c.count_written.new.types d c.in_ok-first.ensures.grows c.in_ok-first.ensures.tags c.requires)

pub count_cast-returns : goal.count_cast-returns
count_cast-returns t c =
    let old = c.args.types.now in
    let d = c.args.declared.now in
    counted_both old c.count_written.new.types c.count.new.types d c.in_ok-first.first c.in_ok-second.second c.plus.result (λ s k. k.expr s (tree.SizeTy c.args.at (ty_of c.args.t.now)) + ty_sum k s (ty_of c.args.t.now)) (λ s k. expr_sum k s (expr_of c.args.a.now)) c.in_ok-first.ensures c.in_ok-second.ensures c.plus.ensures

pub count_call-count_all-requires : goal.count_call-count_all-requires
count_call-count_all-requires t c =
    let old = c.args.types.now in
    let d = c.args.declared.now in
    (first_of (search (rules, the_lemmas), grind (the_lemmas, arith, common_steps), grind (the_lemmas, arith, elements)), held_kept old c.count_callee.new.types d c.in_ok-first.ensures.grows c.in_ok-first.ensures.tags c.requires)

pub count_call-returns : goal.count_call-returns
count_call-returns t c =
    let old = c.args.types.now in
    let d = c.args.declared.now in
    counted_both old c.count_callee.new.types c.count_all.new.types d c.in_ok-first.first c.in_ok-second.second c.plus.result (λ s k. k.node + (if names_function s (expr_of c.args.f.now) then 0 else expr_sum k s (expr_of c.args.f.now))) (λ s k. exprs_sum k s (exprs_of c.args.arguments.now)) c.in_ok-first.ensures c.in_ok-second.ensures c.plus.ensures

pub count_array-count-requires : goal.count_array-count-requires
count_array-count-requires t c =
    let old = c.args.types.now in
    let d = c.args.declared.now in
    (first_of (search (rules, the_lemmas), grind (the_lemmas, arith, common_steps), grind (the_lemmas, arith, elements)), held_kept old c.count_behind.new.types d c.in_ok-first.ensures.grows c.in_ok-first.ensures.tags c.requires)

pub count_array-returns : goal.count_array-returns
count_array-returns t c =
    let old = c.args.types.now in
    let d = c.args.declared.now in
    counted_both old c.count_behind.new.types c.count.new.types d c.in_ok-first.first c.in_ok-second.second c.plus.result (λ s k. k.node + ty_sum k s (ty_of c.args.of.now)) (λ s k. expr_sum k s (expr_of c.args.size.now)) c.in_ok-first.ensures c.in_ok-second.ensures c.plus.ensures

pub count_function-count_types-requires : goal.count_function-count_types-requires
count_function-count_types-requires t c =
    let old = c.args.types.now in
    let d = c.args.declared.now in
    (first_of (search (rules, the_lemmas), grind (the_lemmas, arith, common_steps), grind (the_lemmas, arith, elements)), held_kept old c.count_behind.new.types d c.in_ok-first.ensures.grows c.in_ok-first.ensures.tags c.requires)

pub count_function-returns : goal.count_function-returns
count_function-returns t c =
    let old = c.args.types.now in
    let d = c.args.declared.now in
    counted_both old c.count_behind.new.types c.count_types.new.types d c.in_ok-first.first c.in_ok-second.second c.plus.result (λ s k. k.node + ty_sum k s (ty_of c.args.gives.now)) (λ s k. tys_sum k s (tys_of c.args.parameters.now)) c.in_ok-first.ensures c.in_ok-second.ensures c.plus.ensures

pub count_written-is_wide-requires : goal.count_written-is_wide-requires
count_written-is_wide-requires t c =
    let old = c.args.types.now in
    let d = c.args.declared.now in
    let s = c.requires.0 in
    (written s c.args.at (ty_of c.args.t.now), c.in_ok-ty.ensures.judged s c.requires.1.fits)

pub count_written-count_type-requires : goal.count_written-count_type-requires
count_written-count_type-requires t c =
    let old = c.args.types.now in
    let d = c.args.declared.now in
    (first_of (search (rules, the_lemmas), grind (the_lemmas, arith, common_steps), grind (the_lemmas, arith, elements)), held_kept old c.written.new.types d c.in_ok-ty.ensures.grows c.in_ok-ty.ensures.tags c.requires)

pub count_written-returns : goal.count_written-returns
count_written-returns t c =
    let old = c.args.types.now in
    let d = c.args.declared.now in
    let t1 = c.written.new.types in
    let ty = ty_of c.args.t.now in
    let own : Sum = record { weight = c.of.result; is_wide = c.is_wide.result; nodes = 1; words = 0 } in
    counted_both old t1 c.count_type.new.types d own c.in_ok-part.part c.plus.result (λ s k. k.expr s (tree.SizeTy c.args.at ty)) (λ s k. ty_sum k s ty)
    (written_counted old t1 d own c.args.at ty c.of.ensures refl refl c.in_ok-ty.ensures.grows c.in_ok-ty.ensures.tags (λ s holds.
    c.is_wide.ensures (written s c.args.at ty) s.tags (c.in_ok-ty.ensures.judged s holds.fits)
    (layouts_at t1 d s c.as_slice.result.now c.as_slice.ensures.value (fits_kept old t1 d s c.in_ok-ty.ensures.grows c.in_ok-ty.ensures.tags holds.fits))))
    c.in_ok-part.ensures c.plus.ensures

pub count_callee-returns-then-is_function_name : goal.count_callee-returns-then-is_function_name
count_callee-returns-then-is_function_name t c =
    let old = c.args.types.now in
    let d = c.args.declared.now in
    let e = expr_of c.args.f.now in
    called_directly old d c.node.result e c.node.ensures (λ s holds. sym (c.is_function_name.ensures s holds.fits) ∙ c.if-is_function_name.true)

pub count_callee-returns-else-is_function_name : goal.count_callee-returns-else-is_function_name
count_callee-returns-else-is_function_name t c =
    let old = c.args.types.now in
    let d = c.args.declared.now in
    let e = expr_of c.args.f.now in
    called_through old c.count_one.new.types d c.count_one.result e (λ s holds. sym (c.is_function_name.ensures s holds.fits) ∙ c.if-is_function_name.false) c.count_one.ensures

pub count_all-loop-e-init : goal.count_all-loop-e-init
count_all-loop-e-init t c =
    let old = c.args.types.now in
    let d = c.args.declared.now in
    let items = (out-Exprs c.args.all.now).items.items in
    begun old d c.nothing-sum.result (λ s k. exprs_sum k s (exprs (map expr_of items))) (λ s k. exprs_sum k s (exprs_of c.args.all.now)) c.nothing-sum.ensures (λ s k. ap (exprs_sum k s) (exprs_view c.args.all.now))

pub count_all-count-requires : goal.count_all-count-requires
count_all-count-requires t c =
    let old = c.args.types.now in
    let d = c.args.declared.now in
    let g = c.loop-e.invariant.are in
    (first_of (search (rules, the_lemmas), grind (the_lemmas, arith, common_steps), grind (the_lemmas, arith, elements)), held_kept old c.loop-e.types d g.grows g.tags c.requires)

pub count_all-loop-e-preserved : goal.count_all-loop-e-preserved
count_all-loop-e-preserved t c =
    let old = c.args.types.now in
    let d = c.args.declared.now in
    let items = (out-Exprs c.args.all.now).items.items in
    let i = c.loop-e.e-index in
    let x = c.e-item.result in
    let within : i < length items = subst (λ (l : List Expr). i < length l) c.deref-e-items.ensures.value c.loop-e-test.true in
    let next : x ≡ get_or items i x = subst (λ (l : List Expr). x ≡ get_or l i x) c.deref-e-items.ensures.value c.e-item.is in
    goes_on old c.loop-e.types c.count.new.types d c.loop-e.sum c.in_ok-next.next c.plus-sum.result (λ s k. exprs_sum k s (exprs (map expr_of (drop i items)))) (λ s k. exprs_sum k s (exprs (map expr_of (drop (i + 1) items)))) (λ s k. exprs_sum k s (exprs_of c.args.all.now)) (λ s k. expr_sum k s (expr_of x))
    c.loop-e.invariant c.in_ok-next.ensures c.plus-sum.ensures (λ s k. ap (λ (l : List Expr). exprs_sum k s (exprs (map expr_of l))) (drop_at items i x within next))

pub count_all-returns : goal.count_all-returns
count_all-returns t c =
    let old = c.args.types.now in
    let d = c.args.declared.now in
    let items = (out-Exprs c.args.all.now).items.items in
    let i = c.loop-e.e-index in
    let past : length items ≤ i = subst (λ (l : List Expr). length l ≤ i) c.deref-e-items.ensures.value c.loop-e-test.false in
    done old c.loop-e.types d c.loop-e.sum (λ s k. exprs_sum k s (exprs (map expr_of (drop i items)))) (λ s k. exprs_sum k s (exprs_of c.args.all.now)) c.loop-e.invariant (λ s k. ap (λ (l : List Expr). exprs_sum k s (exprs (map expr_of l))) (drop_all i items past))

pub count_types-loop-t-init : goal.count_types-loop-t-init
count_types-loop-t-init t c =
    let old = c.args.types.now in
    let d = c.args.declared.now in
    let items = c.args.all.now.items.items in
    begun old d c.nothing-sum.result (λ s k. tys_sum k s (tys (map ty_of items))) (λ s k. tys_sum k s (tys_of c.args.all.now)) c.nothing-sum.ensures (λ s k. refl)

pub count_types-count_type-requires : goal.count_types-count_type-requires
count_types-count_type-requires t c =
    let old = c.args.types.now in
    let d = c.args.declared.now in
    let g = c.loop-t.invariant.are in
    (first_of (search (rules, the_lemmas), grind (the_lemmas, arith, common_steps), grind (the_lemmas, arith, elements)), held_kept old c.loop-t.types d g.grows g.tags c.requires)

pub count_types-loop-t-preserved : goal.count_types-loop-t-preserved
count_types-loop-t-preserved t c =
    let old = c.args.types.now in
    let d = c.args.declared.now in
    let items = c.args.all.now.items.items in
    let i = c.loop-t.t-index in
    let x = c.t-item.result in
    let within : i < length items = subst (λ (l : List Ty). i < length l) c.deref-t-items.ensures.value c.loop-t-test.true in
    let next : x ≡ get_or items i x = subst (λ (l : List Ty). x ≡ get_or l i x) c.deref-t-items.ensures.value c.t-item.is in
    goes_on old c.loop-t.types c.count_type.new.types d c.loop-t.sum c.in_ok-next.next c.plus-sum.result (λ s k. tys_sum k s (tys (map ty_of (drop i items)))) (λ s k. tys_sum k s (tys (map ty_of (drop (i + 1) items)))) (λ s k. tys_sum k s (tys_of c.args.all.now)) (λ s k. ty_sum k s (ty_of x))
    c.loop-t.invariant c.in_ok-next.ensures c.plus-sum.ensures (λ s k. ap (λ (l : List Ty). tys_sum k s (tys (map ty_of l))) (drop_at items i x within next))

pub count_types-returns : goal.count_types-returns
count_types-returns t c =
    let old = c.args.types.now in
    let d = c.args.declared.now in
    let items = c.args.all.now.items.items in
    let i = c.loop-t.t-index in
    let past : length items ≤ i = subst (λ (l : List Ty). length l ≤ i) c.deref-t-items.ensures.value c.loop-t-test.false in
    done old c.loop-t.types d c.loop-t.sum (λ s k. tys_sum k s (tys (map ty_of (drop i items)))) (λ s k. tys_sum k s (tys_of c.args.all.now)) c.loop-t.invariant (λ s k. ap (λ (l : List Ty). tys_sum k s (tys (map ty_of l))) (drop_all i items past))

pub count_type-returns-in-Void : goal.count_type-returns-in-Void
count_type-returns-in-Void t c =
    let old = c.args.types.now in
    let d = c.args.declared.now in
    let r = c.node.result in
    subst (λ (x : Ty). AreCounted old old d r (λ s k. ty_sum k s (ty_of x))) (sym c.in-Void.is)
    (counted_here old d r (λ s k. ty_sum k s (tree.Void)) (λ s. c.node.ensures))

pub count_type-returns-in-Int : goal.count_type-returns-in-Int
count_type-returns-in-Int t c =
    let old = c.args.types.now in
    let d = c.args.declared.now in
    let r = c.node-in-Int.result in
    subst (λ (x : Ty). AreCounted old old d r (λ s k. ty_sum k s (ty_of x))) (sym c.in-Int.is)
    (counted_here old d r (λ s k. ty_sum k s (tree.Int)) (λ s. c.node-in-Int.ensures))

pub count_type-returns-in-Unsigned : goal.count_type-returns-in-Unsigned
count_type-returns-in-Unsigned t c =
    let old = c.args.types.now in
    let d = c.args.declared.now in
    let r = c.node-in-Unsigned.result in
    subst (λ (x : Ty). AreCounted old old d r (λ s k. ty_sum k s (ty_of x))) (sym c.in-Unsigned.is)
    (counted_here old d r (λ s k. ty_sum k s (tree.Unsigned)) (λ s. c.node-in-Unsigned.ensures))

pub count_type-returns-in-Char : goal.count_type-returns-in-Char
count_type-returns-in-Char t c =
    let old = c.args.types.now in
    let d = c.args.declared.now in
    let r = c.node-in-Char.result in
    subst (λ (x : Ty). AreCounted old old d r (λ s k. ty_sum k s (ty_of x))) (sym c.in-Char.is)
    (counted_here old d r (λ s k. ty_sum k s (tree.Char)) (λ s. c.node-in-Char.ensures))

pub count_type-returns-in-UChar : goal.count_type-returns-in-UChar
count_type-returns-in-UChar t c =
    let old = c.args.types.now in
    let d = c.args.declared.now in
    let r = c.node-in-UChar.result in
    subst (λ (x : Ty). AreCounted old old d r (λ s k. ty_sum k s (ty_of x))) (sym c.in-UChar.is)
    (counted_here old d r (λ s k. ty_sum k s (tree.UChar)) (λ s. c.node-in-UChar.ensures))

pub count_type-returns-in-Struct : goal.count_type-returns-in-Struct
count_type-returns-in-Struct t c =
    let old = c.args.types.now in
    let d = c.args.declared.now in
    let r = c.node-in-Struct.result in
    subst (λ (x : Ty). AreCounted old old d r (λ s k. ty_sum k s (ty_of x))) (sym c.in-Struct.is)
    (counted_here old d r (λ s k. ty_sum k s (tree.Struct c.in-Struct._name)) (λ s. c.node-in-Struct.ensures))

pub count_type-returns-in-Pointer : goal.count_type-returns-in-Pointer
count_type-returns-in-Pointer t c =
    let old = c.args.types.now in
    let d = c.args.declared.now in
    let q = c.count_behind.result in
    let new = c.count_behind.new.types in
    let all = λ (x : CTy). IfOk q (λ r. AreCounted old new d r (λ s k. ty_sum k s x)) in
    subst (λ (x : Ty). all (ty_of x)) (sym c.in-Pointer.is)
    (subst (λ (x : Ty). all (tree.Pointer (ty_of x))) c.deref.ensures c.count_behind.ensures)

pub count_type-returns-in-Some : goal.count_type-returns-in-Some
count_type-returns-in-Some t c =
    let old = c.args.types.now in
    let d = c.args.declared.now in
    let q = c.count_array.result in
    let new = c.count_array.new.types in
    let all = λ (x : CTy). IfOk q (λ r. AreCounted old new d r (λ s k. ty_sum k s x)) in
    subst (λ (x : Ty). all (ty_of x)) (sym (c.in-Array.is ∙ ap (λ (o : Option _). type.Array c.in-Array.of o) c.in-Some.is))
    (subst (λ (x : Ty). all (tree.ArrayOf (ty_of x) (expr_of c.in-Some.size.value))) c.deref-in-Some.ensures
    (subst (λ (x : Expr). all (tree.ArrayOf (ty_of c.deref-in-Some.result.now) (expr_of x))) c.deref-in-Some-2.ensures c.count_array.ensures))

pub count_type-returns-in-None : goal.count_type-returns-in-None
count_type-returns-in-None t c =
    let old = c.args.types.now in
    let d = c.args.declared.now in
    let q = c.count_behind-in-None.result in
    let new = c.count_behind-in-None.new.types in
    let all = λ (x : CTy). IfOk q (λ r. AreCounted old new d r (λ s k. ty_sum k s x)) in
    subst (λ (x : Ty). all (ty_of x)) (sym (c.in-Array.is ∙ ap (λ (o : Option _). type.Array c.in-Array.of o) c.in-None.is))
    (subst (λ (x : Ty). all (tree.Array (ty_of x))) c.deref-in-None.ensures c.count_behind-in-None.ensures)

pub count_type-returns-in-Func : goal.count_type-returns-in-Func
count_type-returns-in-Func t c =
    let old = c.args.types.now in
    let d = c.args.declared.now in
    let q = c.count_function.result in
    let new = c.count_function.new.types in
    let all = λ (x : CTy). IfOk q (λ r. AreCounted old new d r (λ s k. ty_sum k s x)) in
    subst (λ (x : Ty). all (ty_of x)) (sym c.in-Func.is)
    (subst all (sym (function_made c.in-Func.gives c.in-Func.parameters))
    (subst (λ (x : Ty). all (tree.Func (ty_of x) (tys_of c.in-Func.parameters))) c.deref-in-Func.ensures c.count_function.ensures))
