use Rattle.std.proofs.Common.{sym, subst}
use Rattle.std.specs.Prelude.{Option, OnOk}
use Rattle.c_syntax.specs.View.{maybe}
use Rattle.c_syntax.specs.declared.tree.Expr.{Expr}
use Rattle.c_eval.specs.LiteralsIn.{maybe_literals}
use Rattle.c_lower_literals.specs.Gathered.{Adds}
use Rattle.c_lower_literals.proofs.GatherLemmas.{none_added}
use Rattle.c_lower_literals.proofs.expressions.maybe_literals.Goals as goal

pub returns-in-Some : goal.returns-in-Some
returns-in-Some c = λ table s fits.
    subst (λ (o : Option Expr). OnOk c.expression_literals.result (Adds c.args.texts.now.items c.expression_literals.new.texts.items (maybe_literals s (maybe o)))) (sym c.in-Some.is) (c.expression_literals.ensures table s fits)

pub returns-in-None : goal.returns-in-None
returns-in-None c = λ table s fits. subst (λ (o : Option Expr). Adds c.args.texts.now.items c.args.texts.now.items (maybe_literals s (maybe o))) (sym c.in-None.is) (none_added c.args.texts.now.items)
