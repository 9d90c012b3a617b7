use Rattle.std.proofs.Common.{◌+◌, List, map, drop, ap}
use Rattle.std.proofs.lemmas.List.{drop_all}
use Rattle.c_syntax.specs.View.{item_of}
use Rattle.c_syntax.specs.declared.tree.Item.{Item}
use Rattle.c_expressions.proofs.GoingLemmas.{drop_at}
use Rattle.c_lower_bases.proofs.ObjectLemmas.{none_told, one_told, all_told}
use Rattle.c_lower_bases.proofs.sizes.firsts_given.Goals as goal

pub loop-item-init : goal.loop-item-init
loop-item-init c = none_told c.new-given.result.items (map item_of c.args.items.now) c.new-given.ensures.items

pub loop-item-preserved : goal.loop-item-preserved
loop-item-preserved c =
    let items = c.args.items.now in
    let i = c.loop-item.item-index in
    let x = c.item-item.result in
    let next = ap (λ (l : List Item). map item_of l) (drop_at items i x c.loop-item-test.true c.item-item.is) in
    one_told c.loop-item.given.items c.add_first.new.given.items (item_of x) (map item_of (drop i items)) (map item_of (drop (i + 1) items)) (map item_of items) c.loop-item.invariant next c.in_ok-add_first.ensures

pub returns : goal.returns
returns c =
    let items = c.args.items.now in
    let i = c.loop-item.item-index in
    all_told c.loop-item.given.items (map item_of (drop i items)) (map item_of items) c.loop-item.invariant (ap (λ (l : List Item). map item_of l) (drop_all i items c.loop-item-test.false))
