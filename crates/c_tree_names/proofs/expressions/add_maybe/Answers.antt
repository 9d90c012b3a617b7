use Rattle.std.proofs.Common.{Option, sym, subst}
use Rattle.std.specs.Prelude.{OnOk}
use Rattle.c_syntax.specs.View.{maybe}
use Rattle.c_syntax.specs.declared.tree.Expr.{Expr}
use Rattle.c_helpers.specs.Names.{maybe_names}
use Rattle.c_tree_names.specs.Added.{Added}
use Rattle.c_tree_names.proofs.AddedLemmas.{none_added}
use Rattle.c_tree_names.proofs.expressions.add_maybe.Goals as goal

pub returns-in-Some : goal.returns-in-Some
returns-in-Some c = subst (λ (o : Option Expr). OnOk c.add_expression.result (Added c.args.names.now.items c.add_expression.new.names.items (maybe_names (maybe o)))) (sym c.in-Some.is) c.add_expression.ensures

pub returns-in-None : goal.returns-in-None
returns-in-None c = subst (λ (o : Option Expr). Added c.args.names.now.items c.args.names.now.items (maybe_names (maybe o))) (sym c.in-None.is) (none_added c.args.names.now.items)
