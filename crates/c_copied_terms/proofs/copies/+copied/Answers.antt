use Rattle.std.proofs.Common.{◌≡◌, ◌<◌, ◌≤◌, ℕ, List, length, map, get_or, Option, sym, ap, subst, ◌∙◌}
use Rattle.std.specs.Prelude.{IfOk}
use Rattle.c_syntax.specs.Plain as plain
use Rattle.c_syntax.specs.Plain.{CExpr, CExprs, CTy, exprs, tys}
use Rattle.c_syntax.specs.View.{form_of, expr_of, exprs_of, ty_of}
use Rattle.c_syntax.specs.declared.tree.Expr.{Expr}
use Rattle.c_syntax.specs.declared.tree.Exprs.{out-Exprs}
use Rattle.c_syntax.specs.declared.tree.Ty.{Ty}
use Rattle.c_syntax.specs.declared.tree.Ty.TheVariants as type
use Rattle.c_syntax.specs.declared.tree.Form.{Form}
use Rattle.c_expressions.specs.Named.{tys_of}
use Rattle.c_expressions.proofs.RowLemmas.{exprs_view, function_made}
use Rattle.c_expressions.proofs.GoingLemmas.{drop_at}
use Rattle.c_copied_terms.proofs.CopyLemmas.{made, type_made, one_copied, all_copied, none_copied}
use Rattle.c_copied_terms.proofs.copies.+copied.Goals as goal

pub copied-returns-in-Number : goal.copied-returns-in-Number
copied-returns-in-Number t c =
    let e = c.args.e.now in
    c.number.ensures ∙ ap (λ (f : Form). form_of f e.pos) (sym c.in-Number.is)

pub copied-returns-in-Str : goal.copied-returns-in-Str
copied-returns-in-Str t c =
    let e = c.args.e.now in
    made c.string.result (plain.Str e.pos c.in-Str.text) (expr_of e) (ap (λ (f : Form). form_of f e.pos) (sym c.in-Str.is)) c.string.ensures

pub copied-returns-in-Null : goal.copied-returns-in-Null
copied-returns-in-Null t c =
    let e = c.args.e.now in
    c.null.ensures ∙ ap (λ (f : Form). form_of f e.pos) (sym c.in-Null.is)

pub copied-returns-in-Name : goal.copied-returns-in-Name
copied-returns-in-Name t c =
    let e = c.args.e.now in
    made c.variable.result (plain.Var e.pos c.as_bytes.result.now) (expr_of e) (ap (plain.Var e.pos) c.as_bytes.ensures ∙ ap (λ (f : Form). form_of f e.pos) (sym c.in-Name.is)) c.variable.ensures

pub copied-returns-in-Unary : goal.copied-returns-in-Unary
copied-returns-in-Unary t c =
    let e = c.args.e.now in
    let all = λ (k : CExpr). IfOk c.copied_unary.result (λ r. expr_of r ≡ k) in
    subst (λ (f : Form). all (form_of f e.pos)) (sym c.in-Unary.is)
    (subst (λ (x : Expr). all (plain.Unary e.pos c.in-Unary.op (expr_of x))) c.deref.ensures
    c.copied_unary.ensures)

pub copied-returns-in-Step : goal.copied-returns-in-Step
copied-returns-in-Step t c =
    let e = c.args.e.now in
    let all = λ (k : CExpr). IfOk c.copied_step.result (λ r. expr_of r ≡ k) in
    subst (λ (f : Form). all (form_of f e.pos)) (sym c.in-Step.is)
    (subst (λ (x : Expr). all (plain.Step e.pos c.in-Step.op (expr_of x))) c.deref-in-Step.ensures
    c.copied_step.ensures)

pub copied-returns-in-Binary : goal.copied-returns-in-Binary
copied-returns-in-Binary t c =
    let e = c.args.e.now in
    let all = λ (k : CExpr). IfOk c.copied_binary.result (λ r. expr_of r ≡ k) in
    subst (λ (f : Form). all (form_of f e.pos)) (sym c.in-Binary.is)
    (subst (λ (x : Expr). all (plain.Binary e.pos c.in-Binary.op (expr_of x) (expr_of c.in-Binary.b.value))) c.deref-in-Binary.ensures
    (subst (λ (x : Expr). all (plain.Binary e.pos c.in-Binary.op (expr_of c.deref-in-Binary.result.now) (expr_of x))) c.deref-in-Binary-2.ensures
    c.copied_binary.ensures))

pub copied-returns-in-Assign : goal.copied-returns-in-Assign
copied-returns-in-Assign t c =
    let e = c.args.e.now in
    let all = λ (k : CExpr). IfOk c.copied_assign.result (λ r. expr_of r ≡ k) in
    subst (λ (f : Form). all (form_of f e.pos)) (sym c.in-Assign.is)
    (subst (λ (x : Expr). all (plain.Assign e.pos c.in-Assign.op (expr_of x) (expr_of c.in-Assign.b.value))) c.deref-in-Assign.ensures
    (subst (λ (x : Expr). all (plain.Assign e.pos c.in-Assign.op (expr_of c.deref-in-Assign.result.now) (expr_of x))) c.deref-in-Assign-2.ensures
    c.copied_assign.ensures))

pub copied-returns-in-Cond : goal.copied-returns-in-Cond
copied-returns-in-Cond t c =
    let e = c.args.e.now in
    let all = λ (k : CExpr). IfOk c.copied_cond.result (λ r. expr_of r ≡ k) in
    subst (λ (f : Form). all (form_of f e.pos)) (sym c.in-Cond.is)
    (subst (λ (x : Expr). all (plain.Cond e.pos (expr_of x) (expr_of c.in-Cond.b.value) (expr_of c.in-Cond.c.value))) c.deref-in-Cond.ensures
    (subst (λ (x : Expr). all (plain.Cond e.pos (expr_of c.deref-in-Cond.result.now) (expr_of x) (expr_of c.in-Cond.c.value))) c.deref-in-Cond-2.ensures
    (subst (λ (x : Expr). all (plain.Cond e.pos (expr_of c.deref-in-Cond.result.now) (expr_of c.deref-in-Cond-2.result.now) (expr_of x))) c.deref-in-Cond-3.ensures
    c.copied_cond.ensures)))

pub copied-returns-in-Comma : goal.copied-returns-in-Comma
copied-returns-in-Comma t c =
    let e = c.args.e.now in
    let all = λ (k : CExpr). IfOk c.copied_comma.result (λ r. expr_of r ≡ k) in
    subst (λ (f : Form). all (form_of f e.pos)) (sym c.in-Comma.is)
    (subst (λ (x : Expr). all (plain.Comma e.pos (expr_of x) (expr_of c.in-Comma.b.value))) c.deref-in-Comma.ensures
    (subst (λ (x : Expr). all (plain.Comma e.pos (expr_of c.deref-in-Comma.result.now) (expr_of x))) c.deref-in-Comma-2.ensures
    c.copied_comma.ensures))

pub copied-returns-in-Cast : goal.copied-returns-in-Cast
copied-returns-in-Cast t c =
    let e = c.args.e.now in
    let all = λ (k : CExpr). IfOk c.copied_cast.result (λ r. expr_of r ≡ k) in
    subst (λ (f : Form). all (form_of f e.pos)) (sym c.in-Cast.is)
    (subst (λ (x : Ty). all (plain.Cast e.pos (ty_of x) (expr_of c.in-Cast.a.value))) c.deref-in-Cast.ensures
    (subst (λ (x : Expr). all (plain.Cast e.pos (ty_of c.deref-in-Cast.result.now) (expr_of x))) c.deref-in-Cast-2.ensures
    c.copied_cast.ensures))

pub copied-returns-in-SizeTy : goal.copied-returns-in-SizeTy
copied-returns-in-SizeTy t c =
    let e = c.args.e.now in
    let all = λ (k : CExpr). IfOk c.copied_size_type.result (λ r. expr_of r ≡ k) in
    subst (λ (f : Form). all (form_of f e.pos)) (sym c.in-SizeTy.is)
    (subst (λ (x : Ty). all (plain.SizeTy e.pos (ty_of x))) c.deref-in-SizeTy.ensures
    c.copied_size_type.ensures)

pub copied-returns-in-SizeOf : goal.copied-returns-in-SizeOf
copied-returns-in-SizeOf t c =
    let e = c.args.e.now in
    let all = λ (k : CExpr). IfOk c.copied_size.result (λ r. expr_of r ≡ k) in
    subst (λ (f : Form). all (form_of f e.pos)) (sym c.in-SizeOf.is)
    (subst (λ (x : Expr). all (plain.SizeOf e.pos (expr_of x))) c.deref-in-SizeOf.ensures
    c.copied_size.ensures)

pub copied-returns-in-Index : goal.copied-returns-in-Index
copied-returns-in-Index t c =
    let e = c.args.e.now in
    let all = λ (k : CExpr). IfOk c.copied_index.result (λ r. expr_of r ≡ k) in
    subst (λ (f : Form). all (form_of f e.pos)) (sym c.in-Index.is)
    (subst (λ (x : Expr). all (plain.Index e.pos (expr_of x) (expr_of c.in-Index.b.value))) c.deref-in-Index.ensures
    (subst (λ (x : Expr). all (plain.Index e.pos (expr_of c.deref-in-Index.result.now) (expr_of x))) c.deref-in-Index-2.ensures
    c.copied_index.ensures))

pub copied-returns-in-Call : goal.copied-returns-in-Call
copied-returns-in-Call t c =
    let e = c.args.e.now in
    let all = λ (k : CExpr). IfOk c.copied_call.result (λ r. expr_of r ≡ k) in
    subst (λ (f : Form). all (form_of f e.pos)) (sym c.in-Call.is)
    (subst (λ (x : Expr). all (plain.Call e.pos (expr_of x) (exprs_of c.in-Call.es))) c.deref-in-Call.ensures
    c.copied_call.ensures)

pub copied-returns-in-Member : goal.copied-returns-in-Member
copied-returns-in-Member t c =
    let e = c.args.e.now in
    let all = λ (k : CExpr). IfOk c.copied_member.result (λ r. expr_of r ≡ k) in
    subst (λ (f : Form). all (form_of f e.pos)) (sym c.in-Member.is)
    (subst (λ (x : Expr). all (plain.Member e.pos (expr_of x) c.in-Member.m)) c.deref-in-Member.ensures
    c.copied_member.ensures)

pub copied-returns-in-Arrow : goal.copied-returns-in-Arrow
copied-returns-in-Arrow t c =
    let e = c.args.e.now in
    let all = λ (k : CExpr). IfOk c.copied_arrow.result (λ r. expr_of r ≡ k) in
    subst (λ (f : Form). all (form_of f e.pos)) (sym c.in-Arrow.is)
    (subst (λ (x : Expr). all (plain.Arrow e.pos (expr_of x) c.in-Arrow.m)) c.deref-in-Arrow.ensures
    c.copied_arrow.ensures)

pub copied_unary-returns : goal.copied_unary-returns
copied_unary-returns t c =
    made c.unary.result (plain.Unary c.args.pos c.args.op (expr_of c.in_ok-part.part)) (plain.Unary c.args.pos c.args.op (expr_of c.args.a.now))
    (ap (λ (k : CExpr). plain.Unary c.args.pos c.args.op k) c.in_ok-part.ensures) c.unary.ensures

pub copied_step-returns : goal.copied_step-returns
copied_step-returns t c =
    made c.step.result (plain.Step c.args.pos c.args.op (expr_of c.in_ok-part.part)) (plain.Step c.args.pos c.args.op (expr_of c.args.a.now))
    (ap (λ (k : CExpr). plain.Step c.args.pos c.args.op k) c.in_ok-part.ensures) c.step.ensures

pub copied_binary-returns : goal.copied_binary-returns
copied_binary-returns t c =
    made c.binary.result (plain.Binary c.args.pos c.args.op (expr_of c.in_ok-first.first) (expr_of c.in_ok-second.second)) (plain.Binary c.args.pos c.args.op (expr_of c.args.a.now) (expr_of c.args.b.now))
    (ap (λ (k : CExpr). plain.Binary c.args.pos c.args.op k (expr_of c.in_ok-second.second)) c.in_ok-first.ensures ∙ (ap (λ (k : CExpr). plain.Binary c.args.pos c.args.op (expr_of c.args.a.now) k) c.in_ok-second.ensures)) c.binary.ensures

pub copied_assign-returns : goal.copied_assign-returns
copied_assign-returns t c =
    made c.assign.result (plain.Assign c.args.pos c.args.op (expr_of c.in_ok-first.first) (expr_of c.in_ok-second.second)) (plain.Assign c.args.pos c.args.op (expr_of c.args.a.now) (expr_of c.args.b.now))
    (ap (λ (k : CExpr). plain.Assign c.args.pos c.args.op k (expr_of c.in_ok-second.second)) c.in_ok-first.ensures ∙ (ap (λ (k : CExpr). plain.Assign c.args.pos c.args.op (expr_of c.args.a.now) k) c.in_ok-second.ensures)) c.assign.ensures

pub copied_cond-returns : goal.copied_cond-returns
copied_cond-returns t c =
    made c.conditional.result (plain.Cond c.args.pos (expr_of c.in_ok-test.test) (expr_of c.in_ok-first.first) (expr_of c.in_ok-second.second)) (plain.Cond c.args.pos (expr_of c.args.a.now) (expr_of c.args.b.now) (expr_of c.args.c.now))
    (ap (λ (k : CExpr). plain.Cond c.args.pos k (expr_of c.in_ok-first.first) (expr_of c.in_ok-second.second)) c.in_ok-test.ensures ∙ (ap (λ (k : CExpr). plain.Cond c.args.pos (expr_of c.args.a.now) k (expr_of c.in_ok-second.second)) c.in_ok-first.ensures ∙ (ap (λ (k : CExpr). plain.Cond c.args.pos (expr_of c.args.a.now) (expr_of c.args.b.now) k) c.in_ok-second.ensures))) c.conditional.ensures

pub copied_comma-returns : goal.copied_comma-returns
copied_comma-returns t c =
    made c.comma.result (plain.Comma c.args.pos (expr_of c.in_ok-first.first) (expr_of c.in_ok-second.second)) (plain.Comma c.args.pos (expr_of c.args.a.now) (expr_of c.args.b.now))
    (ap (λ (k : CExpr). plain.Comma c.args.pos k (expr_of c.in_ok-second.second)) c.in_ok-first.ensures ∙ (ap (λ (k : CExpr). plain.Comma c.args.pos (expr_of c.args.a.now) k) c.in_ok-second.ensures)) c.comma.ensures

pub copied_cast-returns : goal.copied_cast-returns
copied_cast-returns t c =
    made c.cast.result (plain.Cast c.args.pos (ty_of c.in_ok-ty.ty) (expr_of c.in_ok-part.part)) (plain.Cast c.args.pos (ty_of c.args.t.now) (expr_of c.args.a.now))
    (ap (λ (k : CTy). plain.Cast c.args.pos k (expr_of c.in_ok-part.part)) c.in_ok-ty.ensures ∙ (ap (λ (k : CExpr). plain.Cast c.args.pos (ty_of c.args.t.now) k) c.in_ok-part.ensures)) c.cast.ensures

pub copied_size_type-returns : goal.copied_size_type-returns
copied_size_type-returns t c =
    made c.size_type.result (plain.SizeTy c.args.pos (ty_of c.in_ok-ty.ty)) (plain.SizeTy c.args.pos (ty_of c.args.t.now))
    (ap (λ (k : CTy). plain.SizeTy c.args.pos k) c.in_ok-ty.ensures) c.size_type.ensures

pub copied_size-returns : goal.copied_size-returns
copied_size-returns t c =
    made c.size_of.result (plain.SizeOf c.args.pos (expr_of c.in_ok-part.part)) (plain.SizeOf c.args.pos (expr_of c.args.a.now))
    (ap (λ (k : CExpr). plain.SizeOf c.args.pos k) c.in_ok-part.ensures) c.size_of.ensures

pub copied_index-returns : goal.copied_index-returns
copied_index-returns t c =
    made c.index.result (plain.Index c.args.pos (expr_of c.in_ok-first.first) (expr_of c.in_ok-second.second)) (plain.Index c.args.pos (expr_of c.args.a.now) (expr_of c.args.b.now))
    (ap (λ (k : CExpr). plain.Index c.args.pos k (expr_of c.in_ok-second.second)) c.in_ok-first.ensures ∙ (ap (λ (k : CExpr). plain.Index c.args.pos (expr_of c.args.a.now) k) c.in_ok-second.ensures)) c.index.ensures

pub copied_call-returns : goal.copied_call-returns
copied_call-returns t c =
    made c.call.result (plain.Call c.args.pos (expr_of c.in_ok-callee.callee) (exprs (map expr_of c.in_ok-arguments.arguments.items))) (plain.Call c.args.pos (expr_of c.args.f.now) (exprs_of c.args.es.now))
    (ap (λ (k : CExpr). plain.Call c.args.pos k (exprs (map expr_of c.in_ok-arguments.arguments.items))) c.in_ok-callee.ensures ∙ (ap (λ (k : CExprs). plain.Call c.args.pos (expr_of c.args.f.now) k) c.in_ok-arguments.ensures)) c.call.ensures

pub copied_member-returns : goal.copied_member-returns
copied_member-returns t c =
    made c.member.result (plain.Member c.args.pos (expr_of c.in_ok-part.part) c.in_ok-name.name) (plain.Member c.args.pos (expr_of c.args.a.now) c.args.m.now)
    (ap (λ (k : CExpr). plain.Member c.args.pos k c.in_ok-name.name) c.in_ok-part.ensures ∙ (ap (λ (k : List ℕ). plain.Member c.args.pos (expr_of c.args.a.now) k) c.in_ok-name.ensures)) c.member.ensures

pub copied_arrow-returns : goal.copied_arrow-returns
copied_arrow-returns t c =
    made c.arrow.result (plain.Arrow c.args.pos (expr_of c.in_ok-part.part) c.in_ok-name.name) (plain.Arrow c.args.pos (expr_of c.args.a.now) c.args.m.now)
    (ap (λ (k : CExpr). plain.Arrow c.args.pos k c.in_ok-name.name) c.in_ok-part.ensures ∙ (ap (λ (k : List ℕ). plain.Arrow c.args.pos (expr_of c.args.a.now) k) c.in_ok-name.ensures)) c.arrow.ensures

pub copied_all-loop-e-init : goal.copied_all-loop-e-init
copied_all-loop-e-init t c =
    none_copied expr_of c.new-copies.result.items (out-Exprs c.args.all.now).items.items c.new-copies.ensures.items

pub copied_all-loop-e-preserved : goal.copied_all-loop-e-preserved
copied_all-loop-e-preserved t c =
    let items = (out-Exprs c.args.all.now).items.items in
    let i = c.loop-e.e-index in
    let within : i < length items = subst (λ (l : List Expr). i < length l) c.deref-e-items.ensures.value c.loop-e-test.true in
    let next : c.e-item.result ≡ get_or items i c.e-item.result = subst (λ (l : List Expr). c.e-item.result ≡ get_or l i c.e-item.result) c.deref-e-items.ensures.value c.e-item.is in
    one_copied expr_of c.loop-e.copies.items c.push.new.self.items items i c.e-item.result c.in_ok-copy.copy c.loop-e.invariant (drop_at items i c.e-item.result within next) c.in_ok-copy.ensures c.in_ok-push.ensures.items

pub copied_all-returns : goal.copied_all-returns
copied_all-returns t c =
    let items = (out-Exprs c.args.all.now).items.items in
    let past : length items ≤ c.loop-e.e-index = subst (λ (l : List Expr). length l ≤ c.loop-e.e-index) c.deref-e-items.ensures.value c.loop-e-test.false in
    ap exprs (all_copied expr_of c.loop-e.copies.items items c.loop-e.e-index c.loop-e.invariant past) ∙ sym (exprs_view c.args.all.now)

pub copied_type-returns-in-Void : goal.copied_type-returns-in-Void
copied_type-returns-in-Void t c =
    ap ty_of (sym c.in-Void.is)

pub copied_type-returns-in-Int : goal.copied_type-returns-in-Int
copied_type-returns-in-Int t c =
    ap ty_of (sym c.in-Int.is)

pub copied_type-returns-in-Unsigned : goal.copied_type-returns-in-Unsigned
copied_type-returns-in-Unsigned t c =
    ap ty_of (sym c.in-Unsigned.is)

pub copied_type-returns-in-Char : goal.copied_type-returns-in-Char
copied_type-returns-in-Char t c =
    ap ty_of (sym c.in-Char.is)

pub copied_type-returns-in-UChar : goal.copied_type-returns-in-UChar
copied_type-returns-in-UChar t c =
    ap ty_of (sym c.in-UChar.is)

pub copied_type-returns-in-Struct : goal.copied_type-returns-in-Struct
copied_type-returns-in-Struct t c =
    type_made c.structure.result (plain.Struct c.in-Struct.tag) (ty_of c.args.t.now) (ap ty_of (sym c.in-Struct.is)) c.structure.ensures

pub copied_type-returns-in_ok-copy-in-Pointer : goal.copied_type-returns-in_ok-copy-in-Pointer
copied_type-returns-in_ok-copy-in-Pointer t c =
    subst (λ (k : Ty). IfOk c.pointer.result (λ r. ty_of r ≡ ty_of k)) (sym c.in-Pointer.is)
    (subst (λ (u : Ty). IfOk c.pointer.result (λ r. ty_of r ≡ plain.Pointer (ty_of u))) c.deref.ensures
    (type_made c.pointer.result (plain.Pointer (ty_of c.in_ok-copy-in-Pointer.copy)) (plain.Pointer (ty_of c.deref.result.now)) (ap plain.Pointer c.in_ok-copy-in-Pointer.ensures) c.pointer.ensures))

pub copied_type-returns-in-Some : goal.copied_type-returns-in-Some
copied_type-returns-in-Some t c =
    let all = λ (k : CTy). IfOk c.copied_array.result (λ r. ty_of r ≡ k) in
    subst (λ (k : Ty). all (ty_of k)) (sym (c.in-Array.is ∙ ap (λ (o : Option _). type.Array c.in-Array.of o) c.in-Some.is))
    (subst (λ (u : Ty). all (plain.ArrayOf (ty_of u) (expr_of c.in-Some.count.value))) c.deref-in-Some.ensures
    (subst (λ (x : Expr). all (plain.ArrayOf (ty_of c.deref-in-Some.result.now) (expr_of x))) c.deref-in-Some-2.ensures c.copied_array.ensures))

pub copied_type-returns-in_ok-copy-in-None : goal.copied_type-returns-in_ok-copy-in-None
copied_type-returns-in_ok-copy-in-None t c =
    subst (λ (k : Ty). IfOk c.array.result (λ r. ty_of r ≡ ty_of k)) (sym (c.in-Array.is ∙ ap (λ (o : Option _). type.Array c.in-Array.of o) c.in-None.is))
    (subst (λ (u : Ty). IfOk c.array.result (λ r. ty_of r ≡ plain.Array (ty_of u))) c.deref-in-None.ensures
    (type_made c.array.result (plain.Array (ty_of c.in_ok-copy-in-None.copy)) (plain.Array (ty_of c.deref-in-None.result.now)) (ap plain.Array c.in_ok-copy-in-None.ensures) c.array.ensures))

pub copied_type-returns-in-Func : goal.copied_type-returns-in-Func
copied_type-returns-in-Func t c =
    let all = λ (k : CTy). IfOk c.copied_function.result (λ r. ty_of r ≡ k) in
    subst (λ (k : Ty). all (ty_of k)) (sym c.in-Func.is)
    (subst (λ (k : CTy). all k) (sym (function_made c.in-Func.gives c.in-Func.parameters))
    (subst (λ (u : Ty). all (plain.Func (ty_of u) (tys_of c.in-Func.parameters))) c.deref-in-Func.ensures c.copied_function.ensures))

pub copied_array-returns : goal.copied_array-returns
copied_array-returns t c =
    type_made c.array_of.result (plain.ArrayOf (ty_of c.in_ok-copy.copy) (expr_of c.in_ok-count.count)) (plain.ArrayOf (ty_of c.args.of.now) (expr_of c.args.length.now))
    (ap (λ (k : CTy). plain.ArrayOf k (expr_of c.in_ok-count.count)) c.in_ok-copy.ensures ∙ ap (plain.ArrayOf (ty_of c.args.of.now)) c.in_ok-count.ensures) c.array_of.ensures

pub copied_function-returns : goal.copied_function-returns
copied_function-returns t c =
    let copies = tys (map ty_of c.in_ok-copies.copies.items) in
    type_made c.function.result (plain.Func (ty_of c.in_ok-copy.copy) copies) (plain.Func (ty_of c.args.gives.now) (tys_of c.args.parameters.now))
    (ap (λ (k : CTy). plain.Func k copies) c.in_ok-copy.ensures ∙ ap (plain.Func (ty_of c.args.gives.now)) c.in_ok-copies.ensures) c.function.ensures

pub copied_types-loop-t-init : goal.copied_types-loop-t-init
copied_types-loop-t-init t c =
    none_copied ty_of c.new-copies.result.items c.args.all.now.items.items c.new-copies.ensures.items

pub copied_types-loop-t-preserved : goal.copied_types-loop-t-preserved
copied_types-loop-t-preserved t c =
    let items = c.args.all.now.items.items in
    let i = c.loop-t.t-index in
    let within : i < length items = subst (λ (l : List Ty). i < length l) c.deref-t-items.ensures.value c.loop-t-test.true in
    let next : c.t-item.result ≡ get_or items i c.t-item.result = subst (λ (l : List Ty). c.t-item.result ≡ get_or l i c.t-item.result) c.deref-t-items.ensures.value c.t-item.is in
    one_copied ty_of c.loop-t.copies.items c.push.new.self.items items i c.t-item.result c.in_ok-copy.copy c.loop-t.invariant (drop_at items i c.t-item.result within next) c.in_ok-copy.ensures c.in_ok-push.ensures.items

pub copied_types-returns : goal.copied_types-returns
copied_types-returns t c =
    let items = c.args.all.now.items.items in
    let past : length items ≤ c.loop-t.t-index = subst (λ (l : List Ty). length l ≤ c.loop-t.t-index) c.deref-t-items.ensures.value c.loop-t-test.false in
    ap tys (all_copied ty_of c.loop-t.copies.items items c.loop-t.t-index c.loop-t.invariant past)
