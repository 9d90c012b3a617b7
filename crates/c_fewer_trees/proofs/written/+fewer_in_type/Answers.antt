use Rattle.std.proofs.Common.{◌≡◌, ◌<◌, ◌≤◌, List, length, map, get_or, Option, sym, ap, subst, ◌∙◌, arith, rules}
use Rattle.std.specs.Prelude.{IfOk}
use Rattle.std.proofs.lemmas.Grind.{common_steps, elements}
use Rattle.c_syntax.specs.Plain as plain
use Rattle.c_syntax.specs.Plain.{CTy}
use Rattle.c_syntax.specs.View.{expr_of, ty_of}
use Rattle.c_syntax.specs.declared.tree.Expr.{Expr}
use Rattle.c_syntax.specs.declared.tree.Ty.{Ty}
use Rattle.c_syntax.specs.declared.tree.Ty.TheVariants as type
use Rattle.c_syntax.specs.declared.tree.Form.TheFolds.{the_lemmas}
use Rattle.c_expressions.proofs.RowLemmas.{function_made}
use Rattle.c_expressions.proofs.GoingLemmas.{drop_at}
use Rattle.c_expressions.specs.Named.{tys_of}
use Rattle.c_helpers.specs.Fewer as fewer
use Rattle.c_fewer_trees.proofs.OnwardLemmas.{Onward, stands_on, some_on, type_made}
use Rattle.c_fewer_trees.proofs.GivenLemmas.{no_types_made, one_type_made, all_types_made}
use Rattle.c_fewer_trees.proofs.written.+fewer_in_type.Goals as goal

pub fewer_in_type-returns-in-Void-clause-tree : goal.fewer_in_type-returns-in-Void-clause-tree
fewer_in_type-returns-in-Void-clause-tree t c = λ s stands.
    ap (λ (k : Ty). fewer.fewer_in_type s (ty_of k)) (sym c.in-Void.is)

pub fewer_in_type-returns-in-Int-clause-tree : goal.fewer_in_type-returns-in-Int-clause-tree
fewer_in_type-returns-in-Int-clause-tree t c = λ s stands.
    ap (λ (k : Ty). fewer.fewer_in_type s (ty_of k)) (sym c.in-Int.is)

pub fewer_in_type-returns-in-Unsigned-clause-tree : goal.fewer_in_type-returns-in-Unsigned-clause-tree
fewer_in_type-returns-in-Unsigned-clause-tree t c = λ s stands.
    ap (λ (k : Ty). fewer.fewer_in_type s (ty_of k)) (sym c.in-Unsigned.is)

pub fewer_in_type-returns-in-Char-clause-tree : goal.fewer_in_type-returns-in-Char-clause-tree
fewer_in_type-returns-in-Char-clause-tree t c = λ s stands.
    ap (λ (k : Ty). fewer.fewer_in_type s (ty_of k)) (sym c.in-Char.is)

pub fewer_in_type-returns-in-UChar-clause-tree : goal.fewer_in_type-returns-in-UChar-clause-tree
fewer_in_type-returns-in-UChar-clause-tree t c = λ s stands.
    ap (λ (k : Ty). fewer.fewer_in_type s (ty_of k)) (sym c.in-UChar.is)

pub fewer_in_type-returns-in-Struct-clause-tree : goal.fewer_in_type-returns-in-Struct-clause-tree
fewer_in_type-returns-in-Struct-clause-tree t c = λ s stands.
    type_made c.structure.result _ _ (ap plain.Struct c.as_bytes.ensures ∙ ap (λ (k : Ty). fewer.fewer_in_type s (ty_of k)) (sym c.in-Struct.is)) c.structure.ensures

pub fewer_in_type-returns-in_ok-tree-in-Pointer-clause-tree : goal.fewer_in_type-returns-in_ok-tree-in-Pointer-clause-tree
fewer_in_type-returns-in_ok-tree-in-Pointer-clause-tree t c = λ s stands.
    subst (λ (k : Ty). IfOk c.pointer.result (λ r. ty_of r ≡ fewer.fewer_in_type s (ty_of k))) (sym c.in-Pointer.is)
    (subst (λ (u : Ty). IfOk c.pointer.result (λ r. ty_of r ≡ plain.Pointer (fewer.fewer_in_type s (ty_of u)))) c.deref.ensures
    (type_made c.pointer.result (plain.Pointer (ty_of c.in_ok-tree-in-Pointer.tree)) (plain.Pointer (fewer.fewer_in_type s (ty_of c.deref.result.now))) (ap plain.Pointer (c.in_ok-tree-in-Pointer.ensures.tree s stands)) c.pointer.ensures))

pub fewer_in_type-returns-in-Some-clause-tree : goal.fewer_in_type-returns-in-Some-clause-tree
fewer_in_type-returns-in-Some-clause-tree t c = λ s stands.
    let all = λ (k : CTy). IfOk c.fewer_in_array.result (λ r. ty_of r ≡ fewer.fewer_in_type s k) in
    subst (λ (k : Ty). all (ty_of k)) (sym (c.in-Array.is ∙ ap (λ (o : Option _). type.Array c.in-Array.of o) c.in-Some.is))
    (subst (λ (u : Ty). all (plain.ArrayOf (ty_of u) (expr_of c.in-Some.count.value))) c.deref-in-Some.ensures
    (subst (λ (x : Expr). all (plain.ArrayOf (ty_of c.deref-in-Some.result.now) (expr_of x))) c.deref-in-Some-2.ensures (c.fewer_in_array.ensures.tree s stands)))

pub fewer_in_type-returns-in_ok-tree-in-None-clause-tree : goal.fewer_in_type-returns-in_ok-tree-in-None-clause-tree
fewer_in_type-returns-in_ok-tree-in-None-clause-tree t c = λ s stands.
    subst (λ (k : Ty). IfOk c.array.result (λ r. ty_of r ≡ fewer.fewer_in_type s (ty_of k))) (sym (c.in-Array.is ∙ ap (λ (o : Option _). type.Array c.in-Array.of o) c.in-None.is))
    (subst (λ (u : Ty). IfOk c.array.result (λ r. ty_of r ≡ plain.Array (fewer.fewer_in_type s (ty_of u)))) c.deref-in-None.ensures
    (type_made c.array.result (plain.Array (ty_of c.in_ok-tree-in-None.tree)) (plain.Array (fewer.fewer_in_type s (ty_of c.deref-in-None.result.now))) (ap plain.Array (c.in_ok-tree-in-None.ensures.tree s stands)) c.array.ensures))

pub fewer_in_type-returns-in-Func-clause-tree : goal.fewer_in_type-returns-in-Func-clause-tree
fewer_in_type-returns-in-Func-clause-tree t c = λ s stands.
    let all = λ (k : CTy). IfOk c.fewer_in_function.result (λ r. ty_of r ≡ fewer.fewer_in_type s k) in
    subst (λ (k : Ty). all (ty_of k)) (sym c.in-Func.is)
    (subst (λ (k : CTy). all k) (sym (function_made c.in-Func.gives c.in-Func.parameters))
    (subst (λ (u : Ty). all (plain.Func (ty_of u) (tys_of c.in-Func.parameters))) c.deref-in-Func.ensures (c.fewer_in_function.ensures.tree s stands)))

pub fewer_in_array-constant_tree-requires : goal.fewer_in_array-constant_tree-requires
fewer_in_array-constant_tree-requires t c =
    let f : Onward c.args.types.now c.fewer_in_type.new.types = record { grows = c.in_ok-tree.ensures.grows; tags = c.in_ok-tree.ensures.tags } in
    some_on f c.requires

pub fewer_in_array-returns-clause-tree : goal.fewer_in_array-returns-clause-tree
fewer_in_array-returns-clause-tree t c = λ s stands.
    let f : Onward c.args.types.now c.fewer_in_type.new.types = record { grows = c.in_ok-tree.ensures.grows; tags = c.in_ok-tree.ensures.tags } in
    let of = fewer.fewer_in_type s (ty_of c.args.of.now) in
    type_made c.array_of.result (plain.ArrayOf (ty_of c.in_ok-tree.tree) (expr_of c.in_ok-count.count.tree)) (plain.ArrayOf of (fewer.constant_tree s (expr_of c.args.length.now)))
    (ap (λ (k : CTy). plain.ArrayOf k (expr_of c.in_ok-count.count.tree)) (c.in_ok-tree.ensures.tree s stands) ∙ ap (plain.ArrayOf of) (c.in_ok-count.ensures.made s (stands_on f stands)).tree) c.array_of.ensures

pub fewer_in_function-fewer_in_types-requires : goal.fewer_in_function-fewer_in_types-requires
fewer_in_function-fewer_in_types-requires t c =
    let f : Onward c.args.types.now c.fewer_in_type.new.types = record { grows = c.in_ok-tree.ensures.grows; tags = c.in_ok-tree.ensures.tags } in
    (first_of (search (rules, the_lemmas), grind (the_lemmas, arith, common_steps), grind (the_lemmas, arith, elements)), some_on f c.requires)

pub fewer_in_function-returns-clause-tree : goal.fewer_in_function-returns-clause-tree
fewer_in_function-returns-clause-tree t c = λ s stands.
    let f : Onward c.args.types.now c.fewer_in_type.new.types = record { grows = c.in_ok-tree.ensures.grows; tags = c.in_ok-tree.ensures.tags } in
    let gives = fewer.fewer_in_type s (ty_of c.args.gives.now) in
    let trees = plain.tys (map ty_of c.in_ok-trees.trees.items) in
    type_made c.function.result (plain.Func (ty_of c.in_ok-tree.tree) trees) (plain.Func gives (fewer.fewer_in_types s (tys_of c.args.parameters.now)))
    (ap (λ (k : CTy). plain.Func k trees) (c.in_ok-tree.ensures.tree s stands) ∙ ap (plain.Func gives) (c.in_ok-trees.ensures.trees s (stands_on f stands))) c.function.ensures

pub fewer_in_types-loop-t-init : goal.fewer_in_types-loop-t-init
fewer_in_types-loop-t-init t c =
    no_types_made c.args.types.now c.args.here.now c.new-trees.result.items c.args.all.now.items.items c.new-trees.ensures.items

pub fewer_in_types-fewer_in_type-requires : goal.fewer_in_types-fewer_in_type-requires
fewer_in_types-fewer_in_type-requires t c =
    (first_of (search (rules, the_lemmas), grind (the_lemmas, arith, common_steps), grind (the_lemmas, arith, elements)), some_on c.loop-t.invariant.onward c.requires)

pub fewer_in_types-loop-t-preserved : goal.fewer_in_types-loop-t-preserved
fewer_in_types-loop-t-preserved t c =
    let items = c.args.all.now.items.items in
    let i = c.loop-t.t-index in
    let within : i < length items = subst (λ (l : List Ty). i < length l) c.deref-t-items.ensures.value c.loop-t-test.true in
    let next : c.t-item.result ≡ get_or items i c.t-item.result = subst (λ (l : List Ty). c.t-item.result ≡ get_or l i c.t-item.result) c.deref-t-items.ensures.value c.t-item.is in
    let f : Onward c.loop-t.types c.fewer_in_type.new.types = record { grows = c.in_ok-tree.ensures.grows; tags = c.in_ok-tree.ensures.tags } in
    one_type_made c.args.types.now c.loop-t.types c.fewer_in_type.new.types c.args.here.now c.loop-t.trees.items c.push.new.self.items items i c.t-item.result c.in_ok-tree.tree c.loop-t.invariant (drop_at items i c.t-item.result within next) c.in_ok-tree.ensures.tree f c.in_ok-push.ensures.items

pub fewer_in_types-returns-clause-trees : goal.fewer_in_types-returns-clause-trees
fewer_in_types-returns-clause-trees t c = λ s stands.
    let items = c.args.all.now.items.items in
    let past : length items ≤ c.loop-t.t-index = subst (λ (l : List Ty). length l ≤ c.loop-t.t-index) c.deref-t-items.ensures.value c.loop-t-test.false in
    all_types_made c.args.types.now c.loop-t.types c.args.here.now c.loop-t.trees.items items c.loop-t.t-index c.loop-t.invariant past s stands

pub fewer_in_types-returns-clause-grows : goal.fewer_in_types-returns-clause-grows
fewer_in_types-returns-clause-grows t c =
    c.loop-t.invariant.onward.grows

pub fewer_in_types-returns-clause-tags : goal.fewer_in_types-returns-clause-tags
fewer_in_types-returns-clause-tags t c =
    c.loop-t.invariant.onward.tags
