use Rattle.std.proofs.Common.{◌≡◌, ◌<◌, ◌≤◌, ℕ, List, length, get_or, sym, ap, subst, ◌∙◌, arith, rules}
use Rattle.std.specs.Prelude.{IfOk}
use Rattle.std.proofs.lemmas.Grind.{common_steps, elements}
use Rattle.c_syntax.specs.Plain as plain
use Rattle.c_syntax.specs.Plain.{CExpr}
use Rattle.c_syntax.specs.View.{form_of, expr_of, exprs_of, ty_of}
use Rattle.c_syntax.specs.declared.tree.Expr.{Expr}
use Rattle.c_syntax.specs.declared.tree.Exprs.{out-Exprs}
use Rattle.c_syntax.specs.declared.tree.Ty.{Ty}
use Rattle.c_syntax.specs.declared.tree.Form.{Form}
use Rattle.c_syntax.specs.declared.tree.Form.TheFolds.{the_lemmas}
use Rattle.c_types.specs.Expressions.{judged, written}
use Rattle.c_types.specs.Table.{known}
use Rattle.c_operands.specs.Seen.{IsJudged}
use Rattle.c_operands.proofs.OperandLemmas.{grows_then}
use Rattle.c_operands.specs.Arguments.{IsCallee}
use Rattle.c_expressions.proofs.KeptLemmas.{on_ok}
use Rattle.c_expressions.proofs.FormLemmas.{callee_named, callee_through}
use Rattle.c_expressions.proofs.RowLemmas.{exprs_view}
use Rattle.c_expressions.proofs.GoingLemmas.{begun, goes_on, done, drop_at}
use Rattle.c_helpers.specs.Fewer as fewer
use Rattle.c_fewer_trees.specs.Remade.{Comes, ComesFrom}
use Rattle.c_fewer_trees.proofs.OnwardLemmas.{Onward, then_on, stands_on, some_on, some_fits, written_on, comes_on}
use Rattle.c_fewer_expressions.proofs.CalledLemmas.{called_on}
use Rattle.c_fewer_expressions.proofs.NamedLemmas.{variable_is}
use Rattle.c_fewer_trees.proofs.GivenLemmas.{none_made, one_made, all_made}
use Rattle.c_fewer_expressions.proofs.expressions.+fewer.Goals as goal

pub fewer-returns-in-Number-clause-made : goal.fewer-returns-in-Number-clause-made
fewer-returns-in-Number-clause-made t c = λ s stands.
    let e = c.args.e.now in
    c.remade_leaf.ensures.made s stands (c.number.ensures ∙ ap (λ (f : Form). fewer.fewer s (form_of f e.pos)) (sym c.in-Number.is))

pub fewer-returns-in_ok-tree-in-Str-clause-made : goal.fewer-returns-in_ok-tree-in-Str-clause-made
fewer-returns-in_ok-tree-in-Str-clause-made t c = λ s stands.
    let e = c.args.e.now in
    c.remade_leaf-in-Str.ensures.made s stands (c.in_ok-tree-in-Str.ensures ∙ (ap (plain.Str e.pos) c.as_bytes.ensures ∙ ap (λ (f : Form). fewer.fewer s (form_of f e.pos)) (sym c.in-Str.is)))

pub fewer-returns-in-Null-clause-made : goal.fewer-returns-in-Null-clause-made
fewer-returns-in-Null-clause-made t c = λ s stands.
    let e = c.args.e.now in
    c.remade_leaf-in-Null.ensures.made s stands (c.null.ensures ∙ ap (λ (f : Form). fewer.fewer s (form_of f e.pos)) (sym c.in-Null.is))

pub fewer-returns-in_ok-tree-in-Name-clause-made : goal.fewer-returns-in_ok-tree-in-Name-clause-made
fewer-returns-in_ok-tree-in-Name-clause-made t c = λ s stands.
    let e = c.args.e.now in
    c.remade_leaf-in-Name.ensures.made s stands (c.in_ok-tree-in-Name.ensures ∙ (ap (plain.Var e.pos) c.as_bytes-in-Name.ensures ∙ ap (λ (f : Form). fewer.fewer s (form_of f e.pos)) (sym c.in-Name.is)))

pub fewer-returns-in-Unary-clause-made : goal.fewer-returns-in-Unary-clause-made
fewer-returns-in-Unary-clause-made t c = λ s stands.
    let e = c.args.e.now in
    let all = λ (k : CExpr). IfOk c.unary.result (λ r. ComesFrom c.unary.new.types r s k) in
    subst (λ (f : Form). all (form_of f e.pos)) (sym c.in-Unary.is)
    (subst (λ (x : Expr). all (plain.Unary e.pos c.in-Unary.op (expr_of x))) c.deref.ensures
    (c.unary.ensures.made s stands))

pub fewer-returns-in-Step-clause-made : goal.fewer-returns-in-Step-clause-made
fewer-returns-in-Step-clause-made t c = λ s stands.
    let e = c.args.e.now in
    let all = λ (k : CExpr). IfOk c.step.result (λ r. ComesFrom c.step.new.types r s k) in
    subst (λ (f : Form). all (form_of f e.pos)) (sym c.in-Step.is)
    (subst (λ (x : Expr). all (plain.Step e.pos c.in-Step.op (expr_of x))) c.deref-in-Step.ensures
    (c.step.ensures.made s stands))

pub fewer-returns-in-Binary-clause-made : goal.fewer-returns-in-Binary-clause-made
fewer-returns-in-Binary-clause-made t c = λ s stands.
    let e = c.args.e.now in
    let all = λ (k : CExpr). IfOk c.binary.result (λ r. ComesFrom c.binary.new.types r s k) in
    subst (λ (f : Form). all (form_of f e.pos)) (sym c.in-Binary.is)
    (subst (λ (x : Expr). all (plain.Binary e.pos c.in-Binary.op (expr_of x) (expr_of c.in-Binary.b.value))) c.deref-in-Binary.ensures
    (subst (λ (x : Expr). all (plain.Binary e.pos c.in-Binary.op (expr_of c.deref-in-Binary.result.now) (expr_of x))) c.deref-in-Binary-2.ensures
    (c.binary.ensures.made s stands)))

pub fewer-returns-in-Assign-clause-made : goal.fewer-returns-in-Assign-clause-made
fewer-returns-in-Assign-clause-made t c = λ s stands.
    let e = c.args.e.now in
    let all = λ (k : CExpr). IfOk c.assignment.result (λ r. ComesFrom c.assignment.new.types r s k) in
    subst (λ (f : Form). all (form_of f e.pos)) (sym c.in-Assign.is)
    (subst (λ (x : Expr). all (plain.Assign e.pos c.in-Assign.op (expr_of x) (expr_of c.in-Assign.b.value))) c.deref-in-Assign.ensures
    (subst (λ (x : Expr). all (plain.Assign e.pos c.in-Assign.op (expr_of c.deref-in-Assign.result.now) (expr_of x))) c.deref-in-Assign-2.ensures
    (c.assignment.ensures.made s stands)))

pub fewer-returns-in-Cond-clause-made : goal.fewer-returns-in-Cond-clause-made
fewer-returns-in-Cond-clause-made t c = λ s stands.
    let e = c.args.e.now in
    let all = λ (k : CExpr). IfOk c.choice.result (λ r. ComesFrom c.choice.new.types r s k) in
    subst (λ (f : Form). all (form_of f e.pos)) (sym c.in-Cond.is)
    (subst (λ (x : Expr). all (plain.Cond e.pos (expr_of x) (expr_of c.in-Cond.b.value) (expr_of c.in-Cond.c.value))) c.deref-in-Cond.ensures
    (subst (λ (x : Expr). all (plain.Cond e.pos (expr_of c.deref-in-Cond.result.now) (expr_of x) (expr_of c.in-Cond.c.value))) c.deref-in-Cond-2.ensures
    (subst (λ (x : Expr). all (plain.Cond e.pos (expr_of c.deref-in-Cond.result.now) (expr_of c.deref-in-Cond-2.result.now) (expr_of x))) c.deref-in-Cond-3.ensures
    (c.choice.ensures.made s stands))))

pub fewer-returns-in-Comma-clause-made : goal.fewer-returns-in-Comma-clause-made
fewer-returns-in-Comma-clause-made t c = λ s stands.
    let e = c.args.e.now in
    let all = λ (k : CExpr). IfOk c.comma.result (λ r. ComesFrom c.comma.new.types r s k) in
    subst (λ (f : Form). all (form_of f e.pos)) (sym c.in-Comma.is)
    (subst (λ (x : Expr). all (plain.Comma e.pos (expr_of x) (expr_of c.in-Comma.b.value))) c.deref-in-Comma.ensures
    (subst (λ (x : Expr). all (plain.Comma e.pos (expr_of c.deref-in-Comma.result.now) (expr_of x))) c.deref-in-Comma-2.ensures
    (c.comma.ensures.made s stands)))

pub fewer-returns-in-Cast-clause-made : goal.fewer-returns-in-Cast-clause-made
fewer-returns-in-Cast-clause-made t c = λ s stands.
    let e = c.args.e.now in
    let all = λ (k : CExpr). IfOk c.cast.result (λ r. ComesFrom c.cast.new.types r s k) in
    subst (λ (f : Form). all (form_of f e.pos)) (sym c.in-Cast.is)
    (subst (λ (x : Ty). all (plain.Cast e.pos (ty_of x) (expr_of c.in-Cast.a.value))) c.deref-in-Cast.ensures
    (subst (λ (x : Expr). all (plain.Cast e.pos (ty_of c.deref-in-Cast.result.now) (expr_of x))) c.deref-in-Cast-2.ensures
    (c.cast.ensures.made s stands)))

pub fewer-returns-in-SizeTy-clause-made : goal.fewer-returns-in-SizeTy-clause-made
fewer-returns-in-SizeTy-clause-made t c = λ s stands.
    let e = c.args.e.now in
    subst (λ (f : Form). IfOk c.constant_tree.result (λ r. Comes c.constant_tree.new.types r (fewer.constant_tree s (form_of f e.pos)) (judged s (form_of f e.pos))) → IfOk c.constant_tree.result (λ r. ComesFrom c.constant_tree.new.types r s (form_of f e.pos))) (sym c.in-SizeTy.is)
    (λ h. h) (c.constant_tree.ensures.made s stands)

pub fewer-returns-in-SizeOf-clause-made : goal.fewer-returns-in-SizeOf-clause-made
fewer-returns-in-SizeOf-clause-made t c = λ s stands.
    let e = c.args.e.now in
    subst (λ (f : Form). IfOk c.constant_tree-in-SizeOf.result (λ r. Comes c.constant_tree-in-SizeOf.new.types r (fewer.constant_tree s (form_of f e.pos)) (judged s (form_of f e.pos))) → IfOk c.constant_tree-in-SizeOf.result (λ r. ComesFrom c.constant_tree-in-SizeOf.new.types r s (form_of f e.pos))) (sym c.in-SizeOf.is)
    (λ h. h) (c.constant_tree-in-SizeOf.ensures.made s stands)

pub fewer-returns-in-Index-clause-made : goal.fewer-returns-in-Index-clause-made
fewer-returns-in-Index-clause-made t c = λ s stands.
    let e = c.args.e.now in
    let all = λ (k : CExpr). IfOk c.element.result (λ r. ComesFrom c.element.new.types r s k) in
    subst (λ (f : Form). all (form_of f e.pos)) (sym c.in-Index.is)
    (subst (λ (x : Expr). all (plain.Index e.pos (expr_of x) (expr_of c.in-Index.b.value))) c.deref-in-Index.ensures
    (subst (λ (x : Expr). all (plain.Index e.pos (expr_of c.deref-in-Index.result.now) (expr_of x))) c.deref-in-Index-2.ensures
    (c.element.ensures.made s stands)))

pub fewer-returns-in-Call-clause-made : goal.fewer-returns-in-Call-clause-made
fewer-returns-in-Call-clause-made t c = λ s stands.
    let e = c.args.e.now in
    let all = λ (k : CExpr). IfOk c.call.result (λ r. ComesFrom c.call.new.types r s k) in
    subst (λ (f : Form). all (form_of f e.pos)) (sym c.in-Call.is)
    (subst (λ (x : Expr). all (plain.Call e.pos (expr_of x) (exprs_of c.in-Call.es))) c.deref-in-Call.ensures
    (c.call.ensures.made s stands))

pub fewer-returns-in-Member-clause-made : goal.fewer-returns-in-Member-clause-made
fewer-returns-in-Member-clause-made t c = λ s stands.
    let e = c.args.e.now in
    let all = λ (k : CExpr). IfOk c.member.result (λ r. ComesFrom c.member.new.types r s k) in
    subst (λ (f : Form). all (form_of f e.pos)) (sym c.in-Member.is)
    (subst (λ (x : List ℕ). all (plain.Member e.pos (expr_of c.in-Member.a.value) x)) c.as_bytes-in-Member.ensures
    (subst (λ (x : Expr). all (plain.Member e.pos (expr_of x) c.as_bytes-in-Member.result.now)) c.deref-in-Member.ensures
    (c.member.ensures.made s stands)))

pub fewer-returns-in-Arrow-clause-made : goal.fewer-returns-in-Arrow-clause-made
fewer-returns-in-Arrow-clause-made t c = λ s stands.
    let e = c.args.e.now in
    let all = λ (k : CExpr). IfOk c.arrow.result (λ r. ComesFrom c.arrow.new.types r s k) in
    subst (λ (f : Form). all (form_of f e.pos)) (sym c.in-Arrow.is)
    (subst (λ (x : List ℕ). all (plain.Arrow e.pos (expr_of c.in-Arrow.a.value) x)) c.as_bytes-in-Arrow.ensures
    (subst (λ (x : Expr). all (plain.Arrow e.pos (expr_of x) c.as_bytes-in-Arrow.result.now)) c.deref-in-Arrow.ensures
    (c.arrow.ensures.made s stands)))

pub unary-remade_unary-requires : goal.unary-remade_unary-requires
unary-remade_unary-requires t c =
    let f : Onward c.args.types.now c.fewer.new.types = record { grows = c.in_ok-part.ensures.grows; tags = c.in_ok-part.ensures.tags } in
    let s = c.requires.0 in
    (s, expr_of c.args.a.now, stands_on f c.requires.1, c.in_ok-part.ensures.made s c.requires.1)

pub unary-returns-clause-made : goal.unary-returns-clause-made
unary-returns-clause-made t c = λ s stands.
    let f : Onward c.args.types.now c.fewer.new.types = record { grows = c.in_ok-part.ensures.grows; tags = c.in_ok-part.ensures.tags } in
    c.remade_unary.ensures.made s (expr_of c.args.a.now) (stands_on f stands) (c.in_ok-part.ensures.made s stands)

pub step-remade_step-requires : goal.step-remade_step-requires
step-remade_step-requires t c =
    let f : Onward c.args.types.now c.fewer.new.types = record { grows = c.in_ok-part.ensures.grows; tags = c.in_ok-part.ensures.tags } in
    let s = c.requires.0 in
    (s, expr_of c.args.a.now, stands_on f c.requires.1, c.in_ok-part.ensures.made s c.requires.1)

pub step-returns-clause-made : goal.step-returns-clause-made
step-returns-clause-made t c = λ s stands.
    let f : Onward c.args.types.now c.fewer.new.types = record { grows = c.in_ok-part.ensures.grows; tags = c.in_ok-part.ensures.tags } in
    c.remade_step.ensures.made s (expr_of c.args.a.now) (stands_on f stands) (c.in_ok-part.ensures.made s stands)

pub member-remade_member-requires : goal.member-remade_member-requires
member-remade_member-requires t c =
    let f : Onward c.args.types.now c.fewer.new.types = record { grows = c.in_ok-part.ensures.grows; tags = c.in_ok-part.ensures.tags } in
    let s = c.requires.0 in
    (s, expr_of c.args.a.now, stands_on f c.requires.1, c.in_ok-part.ensures.made s c.requires.1)

pub member-returns-clause-made : goal.member-returns-clause-made
member-returns-clause-made t c = λ s stands.
    let f : Onward c.args.types.now c.fewer.new.types = record { grows = c.in_ok-part.ensures.grows; tags = c.in_ok-part.ensures.tags } in
    c.remade_member.ensures.made s (expr_of c.args.a.now) (stands_on f stands) (c.in_ok-part.ensures.made s stands)

pub arrow-remade_arrow-requires : goal.arrow-remade_arrow-requires
arrow-remade_arrow-requires t c =
    let f : Onward c.args.types.now c.fewer.new.types = record { grows = c.in_ok-part.ensures.grows; tags = c.in_ok-part.ensures.tags } in
    let s = c.requires.0 in
    (s, expr_of c.args.a.now, stands_on f c.requires.1, c.in_ok-part.ensures.made s c.requires.1)

pub arrow-returns-clause-made : goal.arrow-returns-clause-made
arrow-returns-clause-made t c = λ s stands.
    let f : Onward c.args.types.now c.fewer.new.types = record { grows = c.in_ok-part.ensures.grows; tags = c.in_ok-part.ensures.tags } in
    c.remade_arrow.ensures.made s (expr_of c.args.a.now) (stands_on f stands) (c.in_ok-part.ensures.made s stands)

pub binary-fewer-requires-2 : goal.binary-fewer-requires-2
binary-fewer-requires-2 t c =
    let f : Onward c.args.types.now c.fewer.new.types = record { grows = c.in_ok-first.ensures.grows; tags = c.in_ok-first.ensures.tags } in
    (first_of (search (rules, the_lemmas), grind (the_lemmas, arith, common_steps), grind (the_lemmas, arith, elements)), some_on f c.requires)

pub binary-remade_binary-requires : goal.binary-remade_binary-requires
binary-remade_binary-requires t c =
    let f : Onward c.args.types.now c.fewer.new.types = record { grows = c.in_ok-first.ensures.grows; tags = c.in_ok-first.ensures.tags } in
    let g : Onward c.fewer.new.types c.fewer-2.new.types = record { grows = c.in_ok-second.ensures.grows; tags = c.in_ok-second.ensures.tags } in
    let s = c.requires.0 in
    let k = c.requires.1 in
    (s, expr_of c.args.a.now, expr_of c.args.b.now, stands_on (then_on f g) k, comes_on g (c.in_ok-first.ensures.made s k), c.in_ok-second.ensures.made s (stands_on f k))

pub binary-returns-clause-made : goal.binary-returns-clause-made
binary-returns-clause-made t c = λ s stands.
    let f : Onward c.args.types.now c.fewer.new.types = record { grows = c.in_ok-first.ensures.grows; tags = c.in_ok-first.ensures.tags } in
    let g : Onward c.fewer.new.types c.fewer-2.new.types = record { grows = c.in_ok-second.ensures.grows; tags = c.in_ok-second.ensures.tags } in
    c.remade_binary.ensures.made s (expr_of c.args.a.now) (expr_of c.args.b.now) (stands_on (then_on f g) stands) (comes_on g (c.in_ok-first.ensures.made s stands)) (c.in_ok-second.ensures.made s (stands_on f stands))

pub assignment-fewer-requires-2 : goal.assignment-fewer-requires-2
assignment-fewer-requires-2 t c =
    let f : Onward c.args.types.now c.fewer.new.types = record { grows = c.in_ok-first.ensures.grows; tags = c.in_ok-first.ensures.tags } in
    (first_of (search (rules, the_lemmas), grind (the_lemmas, arith, common_steps), grind (the_lemmas, arith, elements)), some_on f c.requires)

pub assignment-remade_assignment-requires : goal.assignment-remade_assignment-requires
assignment-remade_assignment-requires t c =
    let f : Onward c.args.types.now c.fewer.new.types = record { grows = c.in_ok-first.ensures.grows; tags = c.in_ok-first.ensures.tags } in
    let g : Onward c.fewer.new.types c.fewer-2.new.types = record { grows = c.in_ok-second.ensures.grows; tags = c.in_ok-second.ensures.tags } in
    let s = c.requires.0 in
    let k = c.requires.1 in
    (s, expr_of c.args.a.now, expr_of c.args.b.now, stands_on (then_on f g) k, comes_on g (c.in_ok-first.ensures.made s k), c.in_ok-second.ensures.made s (stands_on f k))

pub assignment-returns-clause-made : goal.assignment-returns-clause-made
assignment-returns-clause-made t c = λ s stands.
    let f : Onward c.args.types.now c.fewer.new.types = record { grows = c.in_ok-first.ensures.grows; tags = c.in_ok-first.ensures.tags } in
    let g : Onward c.fewer.new.types c.fewer-2.new.types = record { grows = c.in_ok-second.ensures.grows; tags = c.in_ok-second.ensures.tags } in
    c.remade_assignment.ensures.made s (expr_of c.args.a.now) (expr_of c.args.b.now) (stands_on (then_on f g) stands) (comes_on g (c.in_ok-first.ensures.made s stands)) (c.in_ok-second.ensures.made s (stands_on f stands))

pub comma-fewer-requires-2 : goal.comma-fewer-requires-2
comma-fewer-requires-2 t c =
    let f : Onward c.args.types.now c.fewer.new.types = record { grows = c.in_ok-first.ensures.grows; tags = c.in_ok-first.ensures.tags } in
    (first_of (search (rules, the_lemmas), grind (the_lemmas, arith, common_steps), grind (the_lemmas, arith, elements)), some_on f c.requires)

pub comma-remade_comma-requires : goal.comma-remade_comma-requires
comma-remade_comma-requires t c =
    let f : Onward c.args.types.now c.fewer.new.types = record { grows = c.in_ok-first.ensures.grows; tags = c.in_ok-first.ensures.tags } in
    let g : Onward c.fewer.new.types c.fewer-2.new.types = record { grows = c.in_ok-second.ensures.grows; tags = c.in_ok-second.ensures.tags } in
    let s = c.requires.0 in
    let k = c.requires.1 in
    (s, expr_of c.args.a.now, expr_of c.args.b.now, stands_on (then_on f g) k, comes_on g (c.in_ok-first.ensures.made s k), c.in_ok-second.ensures.made s (stands_on f k))

pub comma-returns-clause-made : goal.comma-returns-clause-made
comma-returns-clause-made t c = λ s stands.
    let f : Onward c.args.types.now c.fewer.new.types = record { grows = c.in_ok-first.ensures.grows; tags = c.in_ok-first.ensures.tags } in
    let g : Onward c.fewer.new.types c.fewer-2.new.types = record { grows = c.in_ok-second.ensures.grows; tags = c.in_ok-second.ensures.tags } in
    c.remade_comma.ensures.made s (expr_of c.args.a.now) (expr_of c.args.b.now) (stands_on (then_on f g) stands) (comes_on g (c.in_ok-first.ensures.made s stands)) (c.in_ok-second.ensures.made s (stands_on f stands))

pub element-fewer-requires-2 : goal.element-fewer-requires-2
element-fewer-requires-2 t c =
    let f : Onward c.args.types.now c.fewer.new.types = record { grows = c.in_ok-first.ensures.grows; tags = c.in_ok-first.ensures.tags } in
    (first_of (search (rules, the_lemmas), grind (the_lemmas, arith, common_steps), grind (the_lemmas, arith, elements)), some_on f c.requires)

pub element-remade_element-requires : goal.element-remade_element-requires
element-remade_element-requires t c =
    let f : Onward c.args.types.now c.fewer.new.types = record { grows = c.in_ok-first.ensures.grows; tags = c.in_ok-first.ensures.tags } in
    let g : Onward c.fewer.new.types c.fewer-2.new.types = record { grows = c.in_ok-second.ensures.grows; tags = c.in_ok-second.ensures.tags } in
    let s = c.requires.0 in
    let k = c.requires.1 in
    (s, expr_of c.args.a.now, expr_of c.args.b.now, stands_on (then_on f g) k, comes_on g (c.in_ok-first.ensures.made s k), c.in_ok-second.ensures.made s (stands_on f k))

pub element-returns-clause-made : goal.element-returns-clause-made
element-returns-clause-made t c = λ s stands.
    let f : Onward c.args.types.now c.fewer.new.types = record { grows = c.in_ok-first.ensures.grows; tags = c.in_ok-first.ensures.tags } in
    let g : Onward c.fewer.new.types c.fewer-2.new.types = record { grows = c.in_ok-second.ensures.grows; tags = c.in_ok-second.ensures.tags } in
    c.remade_element.ensures.made s (expr_of c.args.a.now) (expr_of c.args.b.now) (stands_on (then_on f g) stands) (comes_on g (c.in_ok-first.ensures.made s stands)) (c.in_ok-second.ensures.made s (stands_on f stands))

pub choice-fewer-requires-2 : goal.choice-fewer-requires-2
choice-fewer-requires-2 t c =
    let f : Onward c.args.types.now c.fewer.new.types = record { grows = c.in_ok-test.ensures.grows; tags = c.in_ok-test.ensures.tags } in
    (first_of (search (rules, the_lemmas), grind (the_lemmas, arith, common_steps), grind (the_lemmas, arith, elements)), some_on f c.requires)

pub choice-fewer-requires-3 : goal.choice-fewer-requires-3
choice-fewer-requires-3 t c =
    let f : Onward c.args.types.now c.fewer.new.types = record { grows = c.in_ok-test.ensures.grows; tags = c.in_ok-test.ensures.tags } in
    let g : Onward c.fewer.new.types c.fewer-2.new.types = record { grows = c.in_ok-first.ensures.grows; tags = c.in_ok-first.ensures.tags } in
    (first_of (search (rules, the_lemmas), grind (the_lemmas, arith, common_steps), grind (the_lemmas, arith, elements)), some_on (then_on f g) c.requires)

pub choice-remade_choice-requires : goal.choice-remade_choice-requires
choice-remade_choice-requires t c =
    let f : Onward c.args.types.now c.fewer.new.types = record { grows = c.in_ok-test.ensures.grows; tags = c.in_ok-test.ensures.tags } in
    let g : Onward c.fewer.new.types c.fewer-2.new.types = record { grows = c.in_ok-first.ensures.grows; tags = c.in_ok-first.ensures.tags } in
    let k : Onward c.fewer-2.new.types c.fewer-3.new.types = record { grows = c.in_ok-second.ensures.grows; tags = c.in_ok-second.ensures.tags } in
    let s = c.requires.0 in
    let h = c.requires.1 in
    (s, expr_of c.args.a.now, expr_of c.args.b.now, expr_of c.args.c.now, stands_on (then_on (then_on f g) k) h, comes_on (then_on g k) (c.in_ok-test.ensures.made s h), comes_on k (c.in_ok-first.ensures.made s (stands_on f h)), c.in_ok-second.ensures.made s (stands_on (then_on f g) h))

pub choice-returns-clause-made : goal.choice-returns-clause-made
choice-returns-clause-made t c = λ s stands.
    let f : Onward c.args.types.now c.fewer.new.types = record { grows = c.in_ok-test.ensures.grows; tags = c.in_ok-test.ensures.tags } in
    let g : Onward c.fewer.new.types c.fewer-2.new.types = record { grows = c.in_ok-first.ensures.grows; tags = c.in_ok-first.ensures.tags } in
    let k : Onward c.fewer-2.new.types c.fewer-3.new.types = record { grows = c.in_ok-second.ensures.grows; tags = c.in_ok-second.ensures.tags } in
    c.remade_choice.ensures.made s (expr_of c.args.a.now) (expr_of c.args.b.now) (expr_of c.args.c.now) (stands_on (then_on (then_on f g) k) stands) (comes_on (then_on g k) (c.in_ok-test.ensures.made s stands)) (comes_on k (c.in_ok-first.ensures.made s (stands_on f stands))) (c.in_ok-second.ensures.made s (stands_on (then_on f g) stands))

pub cast-written-requires : goal.cast-written-requires
cast-written-requires t c =
    some_fits c.requires

pub cast-fewer_in_type-requires : goal.cast-fewer_in_type-requires
cast-fewer_in_type-requires t c =
    let f : Onward c.args.types.now c.written.new.types = record { grows = c.in_ok-ty.ensures.grows; tags = c.in_ok-ty.ensures.tags } in
    some_on f c.requires

pub cast-fewer-requires : goal.cast-fewer-requires
cast-fewer-requires t c =
    let f : Onward c.args.types.now c.written.new.types = record { grows = c.in_ok-ty.ensures.grows; tags = c.in_ok-ty.ensures.tags } in
    let g : Onward c.written.new.types c.fewer_in_type.new.types = record { grows = c.in_ok-tree.ensures.grows; tags = c.in_ok-tree.ensures.tags } in
    (first_of (search (rules, the_lemmas), grind (the_lemmas, arith, common_steps), grind (the_lemmas, arith, elements)), some_on (then_on f g) c.requires)

pub cast-remade_cast-requires-clause-part : goal.cast-remade_cast-requires-clause-part
cast-remade_cast-requires-clause-part t c =
    let f : Onward c.args.types.now c.written.new.types = record { grows = c.in_ok-ty.ensures.grows; tags = c.in_ok-ty.ensures.tags } in
    let g : Onward c.written.new.types c.fewer_in_type.new.types = record { grows = c.in_ok-tree.ensures.grows; tags = c.in_ok-tree.ensures.tags } in
    let k : Onward c.fewer_in_type.new.types c.fewer.new.types = record { grows = c.in_ok-part.ensures.grows; tags = c.in_ok-part.ensures.tags } in
    let s = c.requires.0 in
    let h = c.requires.1 in
    (s, expr_of c.args.a.now, stands_on (then_on (then_on f g) k) h, c.in_ok-part.ensures.made s (stands_on (then_on f g) h))

pub cast-remade_cast-requires-clause-ty : goal.cast-remade_cast-requires-clause-ty
cast-remade_cast-requires-clause-ty t c =
    let g : Onward c.written.new.types c.fewer_in_type.new.types = record { grows = c.in_ok-tree.ensures.grows; tags = c.in_ok-tree.ensures.tags } in
    let k : Onward c.fewer_in_type.new.types c.fewer.new.types = record { grows = c.in_ok-part.ensures.grows; tags = c.in_ok-part.ensures.tags } in
    let s = c.requires.0 in
    let w = written s c.args.at (ty_of c.args.t.now) in
    (w, written_on c.in_ok-ty.ty w (then_on g k) (c.in_ok-ty.ensures.judged s c.requires.1.fits))

pub cast-returns-clause-made : goal.cast-returns-clause-made
cast-returns-clause-made t c = λ s stands.
    let f : Onward c.args.types.now c.written.new.types = record { grows = c.in_ok-ty.ensures.grows; tags = c.in_ok-ty.ensures.tags } in
    let g : Onward c.written.new.types c.fewer_in_type.new.types = record { grows = c.in_ok-tree.ensures.grows; tags = c.in_ok-tree.ensures.tags } in
    let k : Onward c.fewer_in_type.new.types c.fewer.new.types = record { grows = c.in_ok-part.ensures.grows; tags = c.in_ok-part.ensures.tags } in
    let w = ty_of c.args.t.now in
    c.remade_cast.ensures.made s w (expr_of c.args.a.now) (stands_on (then_on (then_on f g) k) stands) (written_on c.in_ok-ty.ty (written s c.args.at w) (then_on g k) (c.in_ok-ty.ensures.judged s stands.fits)) (c.in_ok-tree.ensures.tree s (stands_on f stands)) (c.in_ok-part.ensures.made s (stands_on (then_on f g) stands))

pub callee-called-requires : goal.callee-called-requires
callee-called-requires t c =
    some_fits c.requires

pub callee-returns-in_ok-tree-in-Some-clause-made : goal.callee-returns-in_ok-tree-in-Some-clause-made
callee-returns-in_ok-tree-in-Some-clause-made t c = λ s stands.
    let f = c.args.f.now in
    let name = c.in-Some.name.now in
    record {
      tree = c.in_ok-tree-in-Some.ensures ∙ sym (ap (fewer.fewer s) (variable_is f name c.in-Some.ensures));
      judged = subst (λ k. IsJudged (IsCallee c.called.new.types) c.in_ok-judged-in-Some.judged k) (sym (callee_named s c.args.at (expr_of f) name (judged s (expr_of f)) c.in-Some.ensures)) (c.in_ok-judged-in-Some.ensures.judged s stands.fits);
    }

pub callee-through-requires : goal.callee-through-requires
callee-through-requires t c =
    let s = c.requires.0 in
    (judged s (expr_of c.args.f.now), (c.in_ok-part-in-None.ensures.made s c.requires.1).judged)

pub callee-returns-in_ok-judged-in-None-clause-made : goal.callee-returns-in_ok-judged-in-None-clause-made
callee-returns-in_ok-judged-in-None-clause-made t c = λ s stands.
    let f = expr_of c.args.f.now in
    let part = c.in_ok-part-in-None.ensures.made s stands in
    record {
      tree = part.tree;
      judged = subst (λ k. IsJudged (IsCallee c.through.new.types) c.in_ok-judged-in-None.judged k) (sym (callee_through s c.args.at f (judged s f) c.in-None.ensures)) (c.in_ok-judged-in-None.ensures.judged (judged s f) part.judged);
    }

pub callee-returns-in_ok-judged-in-None-clause-grows : goal.callee-returns-in_ok-judged-in-None-clause-grows
callee-returns-in_ok-judged-in-None-clause-grows t c =
    grows_then (known c.args.types.now) (known c.fewer.new.types) (known c.through.new.types) c.in_ok-part-in-None.ensures.grows c.in_ok-judged-in-None.ensures.grows

pub arguments-loop-e-init : goal.arguments-loop-e-init
arguments-loop-e-init t c =
    let items = (out-Exprs c.args.all.now).items.items in
    (begun c.args.types.now c.args.here.now.declared c.new-collected.result items (exprs_of c.args.all.now) c.new-collected.ensures.refusal c.new-collected.ensures.arguments (exprs_view c.args.all.now), none_made c.args.types.now c.args.here.now c.new-trees.result.items items (exprs_of c.args.all.now) c.new-trees.ensures.items (exprs_view c.args.all.now))

pub arguments-fewer-requires : goal.arguments-fewer-requires
arguments-fewer-requires t c =
    (first_of (search (rules, the_lemmas), grind (the_lemmas, arith, common_steps), grind (the_lemmas, arith, elements)), some_on c.loop-e.invariant.1.onward c.requires)

pub arguments-add-requires : goal.arguments-add-requires
arguments-add-requires t c =
    let s = c.requires.0 in
    (judged s (expr_of c.e-item.result), (c.in_ok-argument.ensures.made s (stands_on c.loop-e.invariant.1.onward c.requires.1)).judged)

pub arguments-loop-e-preserved : goal.arguments-loop-e-preserved
arguments-loop-e-preserved t c =
    let items = (out-Exprs c.args.all.now).items.items in
    let i = c.loop-e.e-index in
    let inv = c.loop-e.invariant in
    let within : i < length items = subst (λ (l : List Expr). i < length l) c.deref-e-items.ensures.value c.loop-e-test.true in
    let next : c.e-item.result ≡ get_or items i c.e-item.result = subst (λ (l : List Expr). c.e-item.result ≡ get_or l i c.e-item.result) c.deref-e-items.ensures.value c.e-item.is in
    let more = drop_at items i c.e-item.result within next in
    let names = (stands_on inv.1.onward c.requires.1).names in
    let f : Onward c.loop-e.types c.fewer.new.types = record { grows = c.in_ok-argument.ensures.grows; tags = c.in_ok-argument.ensures.tags } in
    let g : Onward c.fewer.new.types c.add.new.types = record { grows = c.in_ok-add.ensures.grows; tags = c.in_ok-add.ensures.tags } in (
      goes_on c.args.types.now c.loop-e.types c.fewer.new.types c.add.new.types c.args.here.now.declared c.loop-e.collected c.add.new.self items i c.e-item.result c.in_ok-argument.argument.judged (exprs_of c.args.all.now)
          inv.0 more (λ s fits. (c.in_ok-argument.ensures.made s (record { fits = fits; names = names })).judged) f.grows f.tags c.in_ok-add.ensures.added g.grows g.tags,
      one_made c.args.types.now c.loop-e.types c.add.new.types c.args.here.now c.loop-e.trees.items c.push.new.self.items items i c.e-item.result c.in_ok-argument.argument.tree (exprs_of c.args.all.now) inv.1 more (λ s stands. (c.in_ok-argument.ensures.made s stands).tree) (then_on f g) c.in_ok-push.ensures.items,
    )

pub arguments-returns-clause-made : goal.arguments-returns-clause-made
arguments-returns-clause-made t c = λ s stands.
    let items = (out-Exprs c.args.all.now).items.items in
    let i = c.loop-e.e-index in
    let inv = c.loop-e.invariant in
    let past : length items ≤ i = subst (λ (l : List Expr). length l ≤ i) c.deref-e-items.ensures.value c.loop-e-test.false in
    record {
      trees = all_made c.args.types.now c.loop-e.types c.args.here.now c.loop-e.trees.items items i (exprs_of c.args.all.now) inv.1 past s stands;
      judged = done c.args.types.now c.loop-e.types c.args.here.now.declared c.loop-e.collected items i (exprs_of c.args.all.now) c.judged.result s inv.0 past stands.fits c.judged.ensures;
    }

pub arguments-returns-clause-grows : goal.arguments-returns-clause-grows
arguments-returns-clause-grows t c =
    c.loop-e.invariant.1.onward.grows

pub arguments-returns-clause-tags : goal.arguments-returns-clause-tags
arguments-returns-clause-tags t c =
    c.loop-e.invariant.1.onward.tags

pub call-arguments-requires : goal.call-arguments-requires
call-arguments-requires t c =
    let f : Onward c.args.types.now c.callee.new.types = record { grows = c.in_ok-called.ensures.grows; tags = c.in_ok-called.ensures.tags } in
    (first_of (search (rules, the_lemmas), grind (the_lemmas, arith, common_steps), grind (the_lemmas, arith, elements)), some_on f c.requires)

pub call-remade_call-requires : goal.call-remade_call-requires
call-remade_call-requires t c =
    let f : Onward c.args.types.now c.callee.new.types = record { grows = c.in_ok-called.ensures.grows; tags = c.in_ok-called.ensures.tags } in
    let g : Onward c.callee.new.types c.arguments.new.types = record { grows = c.in_ok-given.ensures.grows; tags = c.in_ok-given.ensures.tags } in
    let s = c.requires.0 in
    let h = c.requires.1 in
    (s, expr_of c.args.f.now, exprs_of c.args.es.now, stands_on (then_on f g) h, called_on g (c.in_ok-called.ensures.made s h), c.in_ok-given.ensures.made s (stands_on f h))

pub call-returns-clause-made : goal.call-returns-clause-made
call-returns-clause-made t c = λ s stands.
    let f : Onward c.args.types.now c.callee.new.types = record { grows = c.in_ok-called.ensures.grows; tags = c.in_ok-called.ensures.tags } in
    let g : Onward c.callee.new.types c.arguments.new.types = record { grows = c.in_ok-given.ensures.grows; tags = c.in_ok-given.ensures.tags } in
    c.remade_call.ensures.made s (expr_of c.args.f.now) (exprs_of c.args.es.now) (stands_on (then_on f g) stands) (called_on g (c.in_ok-called.ensures.made s stands)) (c.in_ok-given.ensures.made s (stands_on f stands)) c.format_of.ensures

pub call-returns-clause-grows : goal.call-returns-clause-grows
call-returns-clause-grows t c =
    on_ok c.remade_call.result (λ h. grows_then (known c.args.types.now) (known c.arguments.new.types) (known c.remade_call.new.types) (grows_then (known c.args.types.now) (known c.callee.new.types) (known c.arguments.new.types) c.in_ok-called.ensures.grows c.in_ok-given.ensures.grows) h) c.remade_call.ensures.grows
