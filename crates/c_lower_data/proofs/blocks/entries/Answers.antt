use Rattle.std.proofs.Common.{◌+◌, List, map, drop, ap}
use Rattle.std.proofs.lemmas.List.{drop_all}
use Rattle.c_syntax.specs.View.{item_of}
use Rattle.c_syntax.specs.declared.tree.Item.{Item}
use Rattle.c_expressions.proofs.GoingLemmas.{drop_at}
use Rattle.c_lower_data.proofs.EntryLemmas.{none_entered, item_entered, all_entered}
use Rattle.c_lower_data.proofs.blocks.entries.Goals as goal

pub loop-item-init : goal.loop-item-init
loop-item-init c = none_entered (map item_of c.args.items.now) c.new-entries.result.entries c.new-entries.ensures.empty

pub loop-item-preserved : goal.loop-item-preserved
loop-item-preserved c =
    let items = c.args.items.now in
    let i = c.loop-item.item-index in
    let x = c.item-item.result in
    item_entered c.loop-item.entries.entries c.add_item.new.entries.entries c.loop-item.block c.in_ok-block.block (map item_of items) (map item_of (drop i items)) (item_of x) (map item_of (drop (i + 1) items)) c.loop-item.invariant
    (ap (λ (l : List Item). map item_of l) (drop_at items i x c.loop-item-test.true c.item-item.is)) (λ s inner fs gs typed are. c.in_ok-block.ensures s inner fs gs typed are)

pub returns : goal.returns
returns c = λ s end typed name.
    let items = c.args.items.now in
    let i = c.loop-item.item-index in
    all_entered c.loop-item.entries.entries c.loop-item.block (map item_of items) (map item_of (drop i items)) c.loop-item.invariant (ap (λ (l : List Item). map item_of l) (drop_all i items c.loop-item-test.false)) s end typed name
