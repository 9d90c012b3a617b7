use Rattle.std.proofs.Common.{sym, subst}
use Rattle.std.specs.Prelude.{OnOk}
use Rattle.c_syntax.specs.View.{item_of}
use Rattle.c_syntax.specs.declared.tree.Item.{Item}
use Rattle.c_tree_names.specs.Added.{Added}
use Rattle.c_tree_names.specs.Items.{names_of_object}
use Rattle.c_tree_names.proofs.AddedLemmas.{none_added}
use Rattle.c_tree_names.proofs.items.add_object.Goals as goal

pub returns-in-Struct : goal.returns-in-Struct
returns-in-Struct c = subst (λ (x : Item). Added c.args.names.now.items c.args.names.now.items (names_of_object (item_of x))) (sym c.in-Struct.is) (none_added c.args.names.now.items)

pub returns-in-Object : goal.returns-in-Object
returns-in-Object c = subst (λ (x : Item). OnOk c.add_first.result (Added c.args.names.now.items c.add_first.new.names.items (names_of_object (item_of x)))) (sym c.in-Object.is) c.add_first.ensures

pub returns-in-Function : goal.returns-in-Function
returns-in-Function c = subst (λ (x : Item). Added c.args.names.now.items c.args.names.now.items (names_of_object (item_of x))) (sym c.in-Function.is) (none_added c.args.names.now.items)
