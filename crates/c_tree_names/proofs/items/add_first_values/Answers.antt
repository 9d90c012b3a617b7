use Rattle.std.proofs.Common.{List, map, refl}
use Rattle.c_syntax.specs.View.{item_of}
use Rattle.c_syntax.specs.declared.tree.Item.{Item}
use Rattle.c_helpers.specs.Fewer.{names_at_file_scope}
use Rattle.c_tree_names.specs.Items.{names_of_object}
use Rattle.c_tree_names.proofs.AddedLemmas.{drop_at, more_added, all_added}
use Rattle.c_tree_names.proofs.ItemLemmas.{objects_first}
use Rattle.c_tree_names.proofs.items.add_first_values.Goals as goal

pub loop-item-preserved : goal.loop-item-preserved
loop-item-preserved c =
    let items = c.args.items.now in
    let i = c.loop-item.item-index in
    let x = c.item-item.result in
    more_added (λ (l : List Item). names_at_file_scope (map item_of l)) (λ (y : Item). names_of_object (item_of y)) _ c.loop-item.names.items c.add_object.new.names.items items i x (λ y ys. objects_first (item_of y) (map item_of ys)) (drop_at items i x c.loop-item-test.true c.item-item.is) c.in_ok-add_object.ensures c.loop-item.invariant

pub returns : goal.returns
returns c = all_added (λ (l : List Item). names_at_file_scope (map item_of l)) c.args.names.now.items c.loop-item.names.items (names_at_file_scope (map item_of c.args.items.now)) c.args.items.now c.loop-item.item-index c.loop-item-test.false refl c.loop-item.invariant
