use Rattle.std.proofs.Common.{◌≡◌, ◌<◌, ◌≤◌, ◌+◌, List, map, drop, get_or, length, refl, sym, ap, subst}
use Rattle.std.specs.Prelude.{OnOk}
use Rattle.std.proofs.lemmas.List.{drop_all}
use Rattle.c_syntax.specs.Plain.{CValue, values}
use Rattle.c_syntax.specs.View.{value_of}
use Rattle.c_syntax.specs.declared.tree.Value.{Value}
use Rattle.c_types.specs.Scope.{Scope}
use Rattle.c_declared.proofs.ValueRows.{braces_made}
use Rattle.c_declarations.specs.Sites.{values_of}
use Rattle.c_expressions.proofs.GoingLemmas.{drop_at}
use Rattle.c_eval.specs.LiteralsIn.{value_literals, values_literals}
use Rattle.c_lower_literals.specs.Gathered.{Adds}
use Rattle.c_lower_literals.proofs.ArgumentLemmas.{none_yet, one_more, all_added}
use Rattle.c_lower_literals.proofs.values.+values.Goals as goal

pub value_literals-returns-in-One : goal.value_literals-returns-in-One
value_literals-returns-in-One t c = λ table s fits.
    subst (λ (v : Value). OnOk c.expression_literals.result (Adds c.args.texts.now.items c.expression_literals.new.texts.items (value_literals s (value_of v)))) (sym c.in-One.is) (c.expression_literals.ensures table s fits)

pub value_literals-returns-in-Many : goal.value_literals-returns-in-Many
value_literals-returns-in-Many t c = λ table s fits.
    subst (λ (v : Value). OnOk c.values_literals.result (Adds c.args.texts.now.items c.values_literals.new.texts.items (value_literals s (value_of v)))) (sym c.in-Many.is)
    (subst (λ (v : CValue). OnOk c.values_literals.result (Adds c.args.texts.now.items c.values_literals.new.texts.items (value_literals s v))) (sym (braces_made c.in-Many.values)) (c.values_literals.ensures table s fits))

pub values_literals-loop-value-init : goal.values_literals-loop-value-init
values_literals-loop-value-init t c =
    let all = c.args.all.now in
    none_yet c.args.declared.now c.args.texts.now.items (λ (s : Scope). values_literals s (values (map value_of all.items.items))) (λ (s : Scope). values_literals s (values_of all)) (λ s. refl)

pub values_literals-loop-value-preserved : goal.values_literals-loop-value-preserved
values_literals-loop-value-preserved t c =
    let items = c.args.all.now.items.items in
    let i = c.loop-value.value-index in
    let x = c.value-item.result in
    let within : i < length items = subst (λ (l : List Value). i < length l) c.deref-value-items.ensures.value c.loop-value-test.true in
    let next : x ≡ get_or items i x = subst (λ (l : List Value). x ≡ get_or l i x) c.deref-value-items.ensures.value c.value-item.is in
    one_more (λ (s : Scope). values_literals s (values (map value_of (drop i items)))) (λ (s : Scope). value_literals s (value_of x)) (λ (s : Scope). values_literals s (values (map value_of (drop (i + 1) items)))) (λ (s : Scope). values_literals s (values_of c.args.all.now))
    c.loop-value.invariant (λ s. ap (λ (l : List Value). values_literals s (values (map value_of l))) (drop_at items i x within next)) (λ table s fits. c.in_ok-value_literals.ensures table s fits)

pub values_literals-returns : goal.values_literals-returns
values_literals-returns t c = λ table s fits.
    let items = c.args.all.now.items.items in
    let i = c.loop-value.value-index in
    let past : length items ≤ i = subst (λ (l : List Value). length l ≤ i) c.deref-value-items.ensures.value c.loop-value-test.false in
    all_added (λ (s : Scope). values_literals s (values (map value_of (drop i items)))) (λ (s : Scope). values_literals s (values_of c.args.all.now)) c.loop-value.invariant
    (λ s. ap (λ (l : List Value). values_literals s (values (map value_of l))) (drop_all i items past)) table s fits
