use Rattle.std.proofs.Common.{◌≡◌, ◌<◌, ◌≤◌, ◌+◌, List, map, drop, get_or, length, refl, sym, ap, subst}
use Rattle.std.proofs.lemmas.List.{drop_all}
use Rattle.c_syntax.specs.Plain.{CValue, values}
use Rattle.c_syntax.specs.View.{value_of}
use Rattle.c_syntax.specs.declared.tree.Value.{Value}
use Rattle.c_lowered.specs.Counts.{first_jumps, firsts_jumps}
use Rattle.c_counted.specs.Numbers.{IsNumber}
use Rattle.c_counted.specs.Rows.{values_of}
use Rattle.c_counted.proofs.GoingLemmas.{begun, goes_on, done}
use Rattle.c_counted.proofs.RowLemmas.{drop_at, braces_made}
use Rattle.c_counted.proofs.values.+values.Goals as goal

pub first_jumps_of-returns-in-Many : goal.first_jumps_of-returns-in-Many
first_jumps_of-returns-in-Many t c =
    let r = c.firsts_jumps_of.result in
    subst (λ (v : Value). IsNumber r (first_jumps (value_of v))) (sym c.in-Many.is) (subst (λ (v : CValue). IsNumber r (first_jumps v)) (sym (braces_made c.in-Many.values)) c.firsts_jumps_of.ensures)

pub firsts_jumps_of-loop-value-init : goal.firsts_jumps_of-loop-value-init
firsts_jumps_of-loop-value-init t c =
    let all = c.args.all.now in
    begun (firsts_jumps (values_of all)) (firsts_jumps (values_of all)) refl

pub firsts_jumps_of-loop-value-preserved : goal.firsts_jumps_of-loop-value-preserved
firsts_jumps_of-loop-value-preserved t c =
    let items = c.args.all.now.items.items in
    let i = c.loop-value.value-index in
    let x = c.value-item.result in
    let within : i < length items = subst (λ (l : List Value). i < length l) c.deref-value-items.ensures.value c.loop-value-test.true in
    let next : x ≡ get_or items i x = subst (λ (l : List Value). x ≡ get_or l i x) c.deref-value-items.ensures.value c.value-item.is in
    goes_on c.loop-value.sum c.first_jumps_of.result c.plus-sum.result (firsts_jumps (values (map value_of (drop i items)))) (first_jumps (value_of x)) (firsts_jumps (values (map value_of (drop (i + 1) items)))) (firsts_jumps (values_of c.args.all.now))
    c.loop-value.invariant c.first_jumps_of.ensures c.plus-sum.ensures (ap (λ (l : List Value). firsts_jumps (values (map value_of l))) (drop_at items i x within next))

pub firsts_jumps_of-returns : goal.firsts_jumps_of-returns
firsts_jumps_of-returns t c =
    let items = c.args.all.now.items.items in
    let i = c.loop-value.value-index in
    let past : length items ≤ i = subst (λ (l : List Value). length l ≤ i) c.deref-value-items.ensures.value c.loop-value-test.false in
    done c.loop-value.sum (firsts_jumps (values (map value_of (drop i items)))) (firsts_jumps (values_of c.args.all.now)) c.loop-value.invariant (ap (λ (l : List Value). firsts_jumps (values (map value_of l))) (drop_all i items past))
