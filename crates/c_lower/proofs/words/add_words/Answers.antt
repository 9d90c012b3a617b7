use Rattle.std.proofs.Common.{◌≡◌, ◌+◌, ℕ, List, map, drop, ap, subst}
use Rattle.std.specs.Prelude.{true}
use Rattle.std.proofs.lemmas.List.{drop_all}
use Rattle.c_syntax.specs.View.{item_of}
use Rattle.c_syntax.specs.declared.tree.Item.{Item}
use Rattle.c_syntax.specs.Plain.{CItem}
use Rattle.c_types.specs.Scope.{contains}
use Rattle.c_expressions.proofs.GoingLemmas.{drop_at}
use Rattle.c_opening.specs.Named.{tags_in, HasNumber}
use Rattle.c_objects.proofs.WalkLemmas.{own_numbered}
use Rattle.c_lower.proofs.WordLemmas.{begun, goes_on, done}
use Rattle.c_lower.proofs.words.add_words.Goals as goal

pub loop-item-init : goal.loop-item-init
loop-item-init c = begun c.args.out.now c.args.here.now c.args.structs.now c.args.words.now.items (map item_of c.args.items.now) c.requires.holds c.requires.numbered

pub take_item-requires-clause-holds : goal.take_item-requires-clause-holds
take_item-requires-clause-holds c = c.loop-item.invariant.some

pub take_item-requires-clause-numbered : goal.take_item-requires-clause-numbered
take_item-requires-clause-numbered c =
    let items = c.args.items.now in
    let i = c.loop-item.item-index in
    let x = c.item-item.result in
    let next = ap (λ (l : List Item). map item_of l) (drop_at items i x c.loop-item-test.true c.item-item.is) in
    own_numbered c.args.out.now.types c.loop-item.out.types (item_of x) (map item_of (drop (i + 1) items)) c.loop-item.invariant.tags
    (subst (λ (l : List CItem). (name : List ℕ) → contains (tags_in l) name ≡ true → HasNumber c.args.out.now.types name) next c.loop-item.invariant.numbered)

pub loop-item-preserved : goal.loop-item-preserved
loop-item-preserved c =
    let items = c.args.items.now in
    let i = c.loop-item.item-index in
    let x = c.item-item.result in
    let next = ap (λ (l : List Item). map item_of l) (drop_at items i x c.loop-item-test.true c.item-item.is) in
    goes_on c.args.out.now c.loop-item.out c.take_item.new.out c.args.here.now c.loop-item.here c.take_item.new.here c.args.structs.now c.loop-item.structs c.take_item.new.structs c.loop-item.number c.in_ok-number.number
    c.args.words.now.items c.loop-item.words.items c.take_item.new.words.items (item_of x) (map item_of (drop i items)) (map item_of (drop (i + 1) items)) (map item_of items) c.loop-item.invariant next
    c.in_ok-number.ensures.some c.in_ok-number.ensures.tags (λ w env is ok. c.in_ok-number.ensures.passes w env is ok)

pub returns : goal.returns
returns c = λ w env end is typed.
    let items = c.args.items.now in
    let i = c.loop-item.item-index in
    done c.args.out.now c.loop-item.out c.args.here.now c.loop-item.here c.args.structs.now c.loop-item.structs c.loop-item.number c.args.words.now.items c.loop-item.words.items (map item_of (drop i items)) (map item_of items) w env end
    c.loop-item.invariant (ap (λ (l : List Item). map item_of l) (drop_all i items c.loop-item-test.false)) is typed
