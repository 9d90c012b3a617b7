use Rattle.std.proofs.Common.{◌≡◌, ◌<◌, ◌≤◌, List, length, get_or, sym, ap, subst, ◌∙◌, arith, rules}
use Rattle.std.proofs.lemmas.Grind.{common_steps, elements}
use Rattle.c_syntax.specs.Plain as plain
use Rattle.c_syntax.specs.View.{value_of}
use Rattle.c_syntax.specs.declared.tree.Value.{Value}
use Rattle.c_syntax.specs.declared.tree.Value.TheFolds.{the_lemmas}
use Rattle.c_declared.proofs.ValueRows.{braces_made}
use Rattle.c_expressions.proofs.GoingLemmas.{drop_at}
use Rattle.c_helpers.specs.Fewer as fewer
use Rattle.c_fewer_trees.proofs.OnwardLemmas.{Onward, some_on}
use Rattle.c_fewer_declarations.proofs.ValueLemmas.{none_made, one_made, all_made}
use Rattle.c_fewer_declarations.proofs.values.+fewer_in_value.Goals as goal

pub fewer_in_value-returns-in_ok-made-in-One-clause-tree : goal.fewer_in_value-returns-in_ok-made-in-One-clause-tree
fewer_in_value-returns-in_ok-made-in-One-clause-tree t c = λ s stands.
    ap plain.One (c.in_ok-made-in-One.ensures.made s stands).tree ∙ ap (λ (v : Value). fewer.with_values (fewer.fewer s) (value_of v)) (sym c.in-One.is)

pub fewer_in_value-returns-in_ok-trees-in-Many-clause-tree : goal.fewer_in_value-returns-in_ok-trees-in-Many-clause-tree
fewer_in_value-returns-in_ok-trees-in-Many-clause-tree t c = λ s stands.
    c.many.ensures ∙ (ap plain.Many (c.in_ok-trees-in-Many.ensures.trees s stands)
    ∙ ap (fewer.with_values (fewer.fewer s)) (sym (ap (λ (v : Value). value_of v) c.in-Many.is ∙ braces_made c.in-Many.all)))

pub fewer_in_values-loop-value-init : goal.fewer_in_values-loop-value-init
fewer_in_values-loop-value-init t c =
    none_made c.args.types.now c.args.here.now c.new-trees.result.items c.args.all.now.items.items c.new-trees.ensures.items

pub fewer_in_values-fewer_in_value-requires : goal.fewer_in_values-fewer_in_value-requires
fewer_in_values-fewer_in_value-requires t c =
    (first_of (search (rules, the_lemmas), grind (the_lemmas, arith, common_steps), grind (the_lemmas, arith, elements)), some_on c.loop-value.invariant.onward c.requires)

pub fewer_in_values-loop-value-preserved : goal.fewer_in_values-loop-value-preserved
fewer_in_values-loop-value-preserved t c =
    let items = c.args.all.now.items.items in
    let i = c.loop-value.value-index in
    let within : i < length items = subst (λ (l : List Value). i < length l) c.deref-value-items.ensures.value c.loop-value-test.true in
    let next : c.value-item.result ≡ get_or items i c.value-item.result = subst (λ (l : List Value). c.value-item.result ≡ get_or l i c.value-item.result) c.deref-value-items.ensures.value c.value-item.is in
    let f : Onward c.loop-value.types c.fewer_in_value.new.types = record { grows = c.in_ok-tree.ensures.grows; tags = c.in_ok-tree.ensures.tags } in
    one_made c.args.types.now c.loop-value.types c.fewer_in_value.new.types c.args.here.now c.loop-value.trees.items c.push.new.self.items items i c.value-item.result c.in_ok-tree.tree c.loop-value.invariant (drop_at items i c.value-item.result within next) c.in_ok-tree.ensures.tree f c.in_ok-push.ensures.items

pub fewer_in_values-returns-clause-trees : goal.fewer_in_values-returns-clause-trees
fewer_in_values-returns-clause-trees t c = λ s stands.
    let items = c.args.all.now.items.items in
    let past : length items ≤ c.loop-value.value-index = subst (λ (l : List Value). length l ≤ c.loop-value.value-index) c.deref-value-items.ensures.value c.loop-value-test.false in
    all_made c.args.types.now c.loop-value.types c.args.here.now c.loop-value.trees.items items c.loop-value.value-index c.loop-value.invariant past s stands

pub fewer_in_values-returns-clause-grows : goal.fewer_in_values-returns-clause-grows
fewer_in_values-returns-clause-grows t c =
    c.loop-value.invariant.onward.grows

pub fewer_in_values-returns-clause-tags : goal.fewer_in_values-returns-clause-tags
fewer_in_values-returns-clause-tags t c =
    c.loop-value.invariant.onward.tags
