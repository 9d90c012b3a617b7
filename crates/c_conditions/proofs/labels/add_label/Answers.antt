use Rattle.std.proofs.Common.{◌≡◌, Option, sym, subst}
use Rattle.std.specs.Prelude.{IfOk}
use Rattle.std.specs.Result.{result_err}
use Rattle.c_syntax.specs.View.{maybe}
use Rattle.c_syntax.specs.declared.tree.Expr.{Expr}
use Rattle.c_syntax.specs.Plain as tree
use Rattle.std.specs.Prelude.{OnOk, ◌++◌}
use Rattle.c_types.specs.Statements.{part_judged}
use Rattle.c_conditions.specs.Cases.{AreLabels, labels_in}
use Rattle.c_conditions.proofs.labels.add_label.Goals as goal

pub returns-in-Some-clause-told : goal.returns-in-Some-clause-told
returns-in-Some-clause-told c = λ s w fits.
    subst (λ (o : Option Expr). IfOk c.add_value.result (λ r. r ≡ result_err (part_judged s w (tree.Label c.args.at (maybe o))))) (sym c.in-Some.is) (c.add_value.ensures.told s w fits)

pub returns-in-Some-clause-labels : goal.returns-in-Some-clause-labels
returns-in-Some-clause-labels c = λ s w ls fits h.
    subst (λ (o : Option Expr). OnOk c.add_value.result (AreLabels c.add_value.new.labels (ls ++ labels_in (part_judged s w (tree.Label c.args.at (maybe o)))))) (sym c.in-Some.is) (c.add_value.ensures.labels s w ls fits h)
