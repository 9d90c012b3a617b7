use Rattle.std.proofs.Common.{◌≡◌, ◌+◌, ℕ, List, map, drop, ap, subst}
use Rattle.std.specs.Prelude.{true}
use Rattle.std.proofs.lemmas.List.{drop_all}
use Rattle.c_syntax.specs.View.{item_of}
use Rattle.c_syntax.specs.declared.tree.Item.{Item}
use Rattle.c_syntax.specs.Plain.{CItem}
use Rattle.c_types.specs.Scope.{contains}
use Rattle.c_expressions.proofs.GoingLemmas.{drop_at}
use Rattle.c_opening.specs.Named.{tags_in, HasNumber}
use Rattle.c_objects.proofs.WalkLemmas.{own_numbered}
use Rattle.c_desugar.proofs.WalkLemmas.{begun, goes_on, done}
use Rattle.c_desugar.proofs.items.pass_items.Goals as goal

pub loop-item-init : goal.loop-item-init
loop-item-init c = begun c.args.types.now c.args.here.now c.new-trees.result.items (map item_of c.args.items.now) c.new-trees.ensures.items c.requires.stands c.requires.numbered

pub pass_item-requires-clause-stands : goal.pass_item-requires-clause-stands
pass_item-requires-clause-stands c = c.loop-item.invariant.some

pub pass_item-requires-clause-numbered : goal.pass_item-requires-clause-numbered
pass_item-requires-clause-numbered c =
    let items = c.args.items.now in
    let i = c.loop-item.item-index in
    let x = c.item-item.result in
    let next = ap (λ (l : List Item). map item_of l) (drop_at items i x c.loop-item-test.true c.item-item.is) in
    own_numbered c.args.types.now c.loop-item.types (item_of x) (map item_of (drop (i + 1) items)) c.loop-item.invariant.tags
    (subst (λ (l : List CItem). (name : List ℕ) → contains (tags_in l) name ≡ true → HasNumber c.args.types.now name) next c.loop-item.invariant.numbered)

pub loop-item-preserved : goal.loop-item-preserved
loop-item-preserved c =
    let items = c.args.items.now in
    let i = c.loop-item.item-index in
    let x = c.item-item.result in
    let next = ap (λ (l : List Item). map item_of l) (drop_at items i x c.loop-item-test.true c.item-item.is) in
    goes_on c.args.types.now c.loop-item.types c.pass_item.new.types c.args.here.now c.loop-item.here c.pass_item.new.here c.loop-item.trees.items c.push.new.self.items c.in_ok-tree.tree
    (item_of x) (map item_of (drop i items)) (map item_of (drop (i + 1) items)) (map item_of items) c.loop-item.invariant next c.in_ok-push.ensures.items c.in_ok-tree.ensures.some c.in_ok-tree.ensures.tags c.in_ok-tree.ensures.passed

pub returns : goal.returns
returns c = λ s end stands typed.
    let items = c.args.items.now in
    let i = c.loop-item.item-index in
    done c.args.types.now c.loop-item.types c.args.here.now c.loop-item.here c.loop-item.trees.items (map item_of (drop i items)) (map item_of items) s end c.loop-item.invariant
    (ap (λ (l : List Item). map item_of l) (drop_all i items c.loop-item-test.false)) stands typed
