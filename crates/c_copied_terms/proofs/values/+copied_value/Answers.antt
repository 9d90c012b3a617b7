use Rattle.std.proofs.Common.{◌≡◌, ◌<◌, ◌≤◌, List, length, get_or, sym, ap, subst, ◌∙◌}
use Rattle.c_syntax.specs.Plain as plain
use Rattle.c_syntax.specs.Plain.{CValue}
use Rattle.c_syntax.specs.View.{value_of}
use Rattle.c_syntax.specs.declared.tree.Value.{Value}
use Rattle.c_declared.proofs.ValueRows.{braces_made}
use Rattle.c_expressions.proofs.GoingLemmas.{drop_at}
use Rattle.c_copied_terms.proofs.CopyLemmas.{one_copied, all_copied, none_copied}
use Rattle.c_copied_terms.proofs.values.+copied_value.Goals as goal

pub copied_value-returns-in_ok-copy-in-One : goal.copied_value-returns-in_ok-copy-in-One
copied_value-returns-in_ok-copy-in-One t c =
    ap plain.One c.in_ok-copy-in-One.ensures ∙ ap (λ (v : Value). value_of v) (sym c.in-One.is)

pub copied_value-returns-in_ok-copies-in-Many : goal.copied_value-returns-in_ok-copies-in-Many
copied_value-returns-in_ok-copies-in-Many t c =
    c.many.ensures
    ∙ (ap (λ (l : List CValue). plain.Many (plain.values l)) c.in_ok-copies-in-Many.ensures
    ∙ sym (ap (λ (v : Value). value_of v) c.in-Many.is ∙ braces_made c.in-Many.all))

pub copied_values-loop-value-init : goal.copied_values-loop-value-init
copied_values-loop-value-init t c =
    none_copied value_of c.new-copies.result.items c.args.all.now.items.items c.new-copies.ensures.items

pub copied_values-loop-value-preserved : goal.copied_values-loop-value-preserved
copied_values-loop-value-preserved t c =
    let items = c.args.all.now.items.items in
    let i = c.loop-value.value-index in
    let within : i < length items = subst (λ (l : List Value). i < length l) c.deref-value-items.ensures.value c.loop-value-test.true in
    let next : c.value-item.result ≡ get_or items i c.value-item.result = subst (λ (l : List Value). c.value-item.result ≡ get_or l i c.value-item.result) c.deref-value-items.ensures.value c.value-item.is in
    one_copied value_of c.loop-value.copies.items c.push.new.self.items items i c.value-item.result c.in_ok-copy.copy c.loop-value.invariant (drop_at items i c.value-item.result within next) c.in_ok-copy.ensures c.in_ok-push.ensures.items

pub copied_values-returns : goal.copied_values-returns
copied_values-returns t c =
    let items = c.args.all.now.items.items in
    let past : length items ≤ c.loop-value.value-index = subst (λ (l : List Value). length l ≤ c.loop-value.value-index) c.deref-value-items.ensures.value c.loop-value-test.false in
    all_copied value_of c.loop-value.copies.items items c.loop-value.value-index c.loop-value.invariant past
