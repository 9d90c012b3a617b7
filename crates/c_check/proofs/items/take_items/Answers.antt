use Rattle.std.proofs.Common.{◌≡◌, ◌<◌, ◌≤◌, ◌+◌, ℕ, List, [], ◌∷◌, length, map, drop, get_or, None, refl, sym, ap, subst, ◌∙◌}
use Rattle.std.proofs.lemmas.List.{drop_all}
use Rattle.c_syntax.specs.View.{item_of}
use Rattle.c_syntax.specs.declared.tree.Item.{Item}
use Rattle.c_expressions.proofs.GoingLemmas.{drop_at}
use Rattle.c_check.specs.declared.items.Taken.{Taken}
use Rattle.c_check.proofs.ItemLemmas.{begun, goes_on, done, own_numbered}
use Rattle.std.specs.Prelude.{true}
use Rattle.c_types.specs.Scope.{contains}
use Rattle.c_opening.specs.Named.{tags_in, HasNumber}
use Rattle.c_check.proofs.items.take_items.Goals as goal

pub loop-item-init : goal.loop-item-init
loop-item-init c =
    let items = c.args.items.now in
    let r : Taken = record { refusal = None; sum = c.nothing.result; words = c.of.result } in
    begun c.args.types.now c.args.declared.now r (map item_of items) refl c.nothing.ensures c.of.ensures c.requires.numbered

pub take_item-requires-clause-holds : goal.take_item-requires-clause-holds
take_item-requires-clause-holds c =
    let h = c.requires.holds in
    let k = c.loop-item.invariant.so_far h.0 h.1 in
    (k.here, k.holds)

pub take_item-requires-clause-numbered : goal.take_item-requires-clause-numbered
take_item-requires-clause-numbered c =
    let items = c.args.items.now in
    let i = c.loop-item.item-index in
    let x = c.item-item.result in
    let next = ap (λ (l : List Item). map item_of l) (drop_at items i x c.loop-item-test.true c.item-item.is) in
    own_numbered c.args.types.now c.loop-item.types (item_of x) (map item_of (drop (i + 1) items)) c.loop-item.invariant.tags
    (subst (λ (l : List _). (name : List ℕ) → contains (tags_in l) name ≡ true → HasNumber c.args.types.now name) next c.loop-item.invariant.numbered)

pub loop-item-preserved : goal.loop-item-preserved
loop-item-preserved c =
    let items = c.args.items.now in
    let i = c.loop-item.item-index in
    let x = c.item-item.result in
    let next = ap (λ (l : List Item). map item_of l) (drop_at items i x c.loop-item-test.true c.item-item.is) in
    let new : Taken = record { refusal = c.merged.result; sum = c.plus.result; words = c.plus-in-loop-item.result } in
    goes_on c.args.types.now c.loop-item.types c.take_item.new.types c.args.declared.now c.loop-item.declared c.take_item.new.declared c.loop-item.taken c.in_ok-next.next new (item_of x) (map item_of (drop i items)) (map item_of (drop (i + 1) items)) (map item_of items)
    c.loop-item.invariant next c.in_ok-next.ensures c.merged.ensures c.plus.ensures c.plus-in-loop-item.ensures

pub returns : goal.returns
returns c = λ s holds.
    let items = c.args.items.now in
    let i = c.loop-item.item-index in
    done c.args.types.now c.loop-item.types c.args.declared.now c.loop-item.declared c.loop-item.taken (map item_of (drop i items)) (map item_of items) s c.loop-item.invariant (ap (λ (l : List Item). map item_of l) (drop_all i items c.loop-item-test.false)) holds
