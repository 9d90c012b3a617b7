use Rattle.std.proofs.Common.{◌≡◌, ◌<◌, ◌≤◌, List, map, get_or, length, refl, sym, subst}
use Rattle.std.specs.Prelude.{OnOk}
use Rattle.c_syntax.specs.Plain.{CValue, values}
use Rattle.c_syntax.specs.View.{value_of}
use Rattle.c_syntax.specs.declared.tree.Value.{Value}
use Rattle.c_helpers.specs.Names.{value_names, values_names}
use Rattle.c_tree_names.specs.Added.{Added}
use Rattle.c_tree_names.specs.Rows.{values_of}
use Rattle.c_tree_names.proofs.AddedLemmas.{drop_at, more_added, all_added}
use Rattle.c_tree_names.proofs.RowLemmas.{braces_made}
use Rattle.c_tree_names.proofs.values.+values.Goals as goal

pub add_value-returns-in-One : goal.add_value-returns-in-One
add_value-returns-in-One t c =
    subst (λ (v : Value). OnOk c.add_expression.result (Added c.args.names.now.items c.add_expression.new.names.items (value_names (value_of v)))) (sym c.in-One.is) c.add_expression.ensures

pub add_value-returns-in-Many : goal.add_value-returns-in-Many
add_value-returns-in-Many t c =
    let all = λ (v : CValue). OnOk c.add_values.result (Added c.args.names.now.items c.add_values.new.names.items (value_names v)) in
    subst (λ (v : Value). all (value_of v)) (sym c.in-Many.is) (subst all (sym (braces_made c.in-Many.all)) c.add_values.ensures)

pub add_values-loop-value-init : goal.add_values-loop-value-init
add_values-loop-value-init t c =
    refl

pub add_values-loop-value-preserved : goal.add_values-loop-value-preserved
add_values-loop-value-preserved t c =
    let items = c.args.all.now.items.items in
    let i = c.loop-value.value-index in
    let x = c.value-item.result in
    let within : i < length items = subst (λ (l : List Value). i < length l) c.deref-value-items.ensures.value c.loop-value-test.true in
    let next : x ≡ get_or items i x = subst (λ (l : List Value). x ≡ get_or l i x) c.deref-value-items.ensures.value c.value-item.is in
    more_added (λ (l : List Value). values_names (values (map value_of l))) (λ (y : Value). value_names (value_of y)) _ c.loop-value.names.items c.add_value.new.names.items items i x (λ y ys. refl) (drop_at items i x within next) c.in_ok-add_value.ensures c.loop-value.invariant

pub add_values-returns : goal.add_values-returns
add_values-returns t c =
    let items = c.args.all.now.items.items in
    let i = c.loop-value.value-index in
    let past : length items ≤ i = subst (λ (l : List Value). length l ≤ i) c.deref-value-items.ensures.value c.loop-value-test.false in
    all_added (λ (l : List Value). values_names (values (map value_of l))) c.args.names.now.items c.loop-value.names.items (values_names (values_of c.args.all.now)) items i past refl c.loop-value.invariant
