use Rattle.std.proofs.Common.{◌≡◌, ◌+◌, ℕ, List, map, drop, ap, subst}
use Rattle.std.specs.Prelude.{true}
use Rattle.std.proofs.lemmas.List.{drop_all}
use Rattle.c_syntax.specs.View.{item_of}
use Rattle.c_syntax.specs.declared.tree.Item.{Item}
use Rattle.c_syntax.specs.Plain.{CItem}
use Rattle.c_types.specs.Scope.{contains}
use Rattle.c_counted.proofs.RowLemmas.{drop_at}
use Rattle.c_opening.specs.Named.{tags_in, HasNumber}
use Rattle.c_objects.proofs.WalkLemmas.{own_numbered}
use Rattle.c_lower.proofs.WalkLemmas.{begun, goes_on, done}
use Rattle.c_lower.proofs.functions.functions.Goals as goal

pub loop-item-init : goal.loop-item-init
loop-item-init c = begun c.args.here.now c.args.structs.now c.args.out.now c.args.placed.now c.args.k (map item_of c.args.items.now) c.requires.holds c.requires.numbered

pub take_item-requires-clause-holds : goal.take_item-requires-clause-holds
take_item-requires-clause-holds c = c.loop-item.invariant.some

pub take_item-requires-clause-numbered : goal.take_item-requires-clause-numbered
take_item-requires-clause-numbered c =
    let items = c.args.items.now in
    let i = c.loop-item.item-index in
    let x = c.item-item.result in
    let next = ap (λ (l : List Item). map item_of l) (drop_at items i x c.loop-item-test.true c.item-item.is) in
    own_numbered c.args.out.now.types c.loop-item.out.types (item_of x) (map item_of (drop (i + 1) items)) c.loop-item.invariant.tags
    (subst (λ (l : List CItem). (name : List ℕ) → contains (tags_in l) name ≡ true → HasNumber c.args.out.now.types name) next c.loop-item.invariant.numbered)

pub loop-item-preserved : goal.loop-item-preserved
loop-item-preserved c =
    let items = c.args.items.now in
    let i = c.loop-item.item-index in
    let x = c.item-item.result in
    let next = ap (λ (l : List Item). map item_of l) (drop_at items i x c.loop-item-test.true c.item-item.is) in
    let k = c.in_ok-block.ensures in
    goes_on c.args.here.now c.loop-item.here c.take_item.new.here c.args.structs.now c.loop-item.structs c.take_item.new.structs c.args.out.now c.loop-item.out c.take_item.new.out c.args.placed.now c.args.k c.loop-item.block c.in_ok-block.block
    (item_of x) (map item_of (drop i items)) (map item_of (drop (i + 1) items)) (map item_of items) c.loop-item.invariant next k.some k.tags k.passes

pub returns : goal.returns
returns c = λ w names s end is typed blocks.
    let items = c.args.items.now in
    let i = c.loop-item.item-index in
    done c.args.here.now c.loop-item.here c.args.structs.now c.loop-item.structs c.args.out.now c.loop-item.out c.args.placed.now c.args.k c.loop-item.block (map item_of (drop i items)) (map item_of items) w names s end c.loop-item.invariant
    (ap (λ (l : List Item). map item_of l) (drop_all i items c.loop-item-test.false)) is typed blocks
