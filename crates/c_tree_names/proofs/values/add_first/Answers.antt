use Rattle.std.proofs.Common.{Option, sym, subst}
use Rattle.std.specs.Prelude.{OnOk}
use Rattle.c_syntax.specs.View.{maybe_value}
use Rattle.c_syntax.specs.declared.tree.Value.{Value}
use Rattle.c_helpers.specs.Names.{first_names}
use Rattle.c_tree_names.specs.Added.{Added}
use Rattle.c_tree_names.proofs.AddedLemmas.{none_added}
use Rattle.c_tree_names.proofs.values.add_first.Goals as goal

pub returns-in-Some : goal.returns-in-Some
returns-in-Some c = subst (λ (o : Option Value). OnOk c.add_value.result (Added c.args.names.now.items c.add_value.new.names.items (first_names (maybe_value o)))) (sym c.in-Some.is) c.add_value.ensures

pub returns-in-None : goal.returns-in-None
returns-in-None c = subst (λ (o : Option Value). Added c.args.names.now.items c.args.names.now.items (first_names (maybe_value o))) (sym c.in-None.is) (none_added c.args.names.now.items)
