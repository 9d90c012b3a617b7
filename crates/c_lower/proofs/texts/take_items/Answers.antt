use Rattle.std.proofs.Common.{◌≡◌, ◌+◌, ℕ, List, map, drop, ap, subst}
use Rattle.std.specs.Prelude.{true}
use Rattle.std.proofs.lemmas.List.{drop_all}
use Rattle.c_syntax.specs.View.{item_of}
use Rattle.c_syntax.specs.declared.tree.Item.{Item}
use Rattle.c_syntax.specs.Plain.{CItem}
use Rattle.c_types.specs.Scope.{contains}
use Rattle.c_expressions.proofs.GoingLemmas.{drop_at}
use Rattle.c_opening.specs.Named.{tags_in, HasNumber}
use Rattle.c_objects.proofs.WalkLemmas.{own_numbered}
use Rattle.c_lower.proofs.TextLemmas.{begun, goes_on, done}
use Rattle.c_lower.proofs.texts.take_items.Goals as goal

pub loop-item-init : goal.loop-item-init
loop-item-init c = begun c.args.types.now c.args.declared.now c.args.texts.now.items (map item_of c.args.items.now) c.requires.holds c.requires.numbered

pub take_item-requires-clause-holds : goal.take_item-requires-clause-holds
take_item-requires-clause-holds c = c.loop-item.invariant.some

pub take_item-requires-clause-numbered : goal.take_item-requires-clause-numbered
take_item-requires-clause-numbered c =
    let items = c.args.items.now in
    let i = c.loop-item.item-index in
    let x = c.item-item.result in
    let next = ap (λ (l : List Item). map item_of l) (drop_at items i x c.loop-item-test.true c.item-item.is) in
    own_numbered c.args.types.now c.loop-item.types (item_of x) (map item_of (drop (i + 1) items)) c.loop-item.invariant.tags
    (subst (λ (l : List CItem). (name : List ℕ) → contains (tags_in l) name ≡ true → HasNumber c.args.types.now name) next c.loop-item.invariant.numbered)

pub loop-item-preserved : goal.loop-item-preserved
loop-item-preserved c =
    let items = c.args.items.now in
    let i = c.loop-item.item-index in
    let x = c.item-item.result in
    let next = ap (λ (l : List Item). map item_of l) (drop_at items i x c.loop-item-test.true c.item-item.is) in
    goes_on c.args.types.now c.loop-item.types c.take_item.new.types c.args.declared.now c.loop-item.declared c.take_item.new.declared c.args.texts.now.items c.loop-item.texts.items c.take_item.new.texts.items
    (item_of x) (map item_of (drop i items)) (map item_of (drop (i + 1) items)) (map item_of items) c.loop-item.invariant next c.in_ok-take_item.ensures.some c.in_ok-take_item.ensures.tags c.in_ok-take_item.ensures.passes

pub returns : goal.returns
returns c = λ here end holds typed.
    let items = c.args.items.now in
    let i = c.loop-item.item-index in
    done c.args.types.now c.loop-item.types c.args.declared.now c.loop-item.declared c.args.texts.now.items c.loop-item.texts.items (map item_of (drop i items)) (map item_of items) here end c.loop-item.invariant
    (ap (λ (l : List Item). map item_of l) (drop_all i items c.loop-item-test.false)) holds typed
