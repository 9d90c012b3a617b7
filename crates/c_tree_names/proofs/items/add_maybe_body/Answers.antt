use Rattle.std.proofs.Common.{Option, sym, subst}
use Rattle.std.specs.Prelude.{OnOk}
use Rattle.c_syntax.specs.View.{maybe_stmt}
use Rattle.c_syntax.specs.declared.tree.Stmt.{Stmt}
use Rattle.c_tree_names.specs.Items.{names_of_body}
use Rattle.c_tree_names.specs.Added.{Added}
use Rattle.c_tree_names.proofs.AddedLemmas.{none_added}
use Rattle.c_tree_names.proofs.items.add_maybe_body.Goals as goal

pub returns-in-Some : goal.returns-in-Some
returns-in-Some c = subst (λ (o : Option Stmt). OnOk c.add_statement.result (Added c.args.names.now.items c.add_statement.new.names.items (names_of_body (maybe_stmt o)))) (sym c.in-Some.is) c.add_statement.ensures

pub returns-in-None : goal.returns-in-None
returns-in-None c = subst (λ (o : Option Stmt). Added c.args.names.now.items c.args.names.now.items (names_of_body (maybe_stmt o))) (sym c.in-None.is) (none_added c.args.names.now.items)
