use Rattle.std.proofs.Common.{sym, subst}
use Rattle.std.specs.Prelude.{Option, OnOk}
use Rattle.c_syntax.specs.View.{maybe_value}
use Rattle.c_syntax.specs.declared.tree.Value.{Value}
use Rattle.c_eval.specs.LiteralsIn.{first_literals}
use Rattle.c_lower_literals.specs.Gathered.{Adds}
use Rattle.c_lower_literals.proofs.GatherLemmas.{none_added}
use Rattle.c_lower_literals.proofs.values.first_literals.Goals as goal

pub returns-in-Some : goal.returns-in-Some
returns-in-Some c = λ table s fits.
    subst (λ (o : Option Value). OnOk c.value_literals.result (Adds c.args.texts.now.items c.value_literals.new.texts.items (first_literals s (maybe_value o)))) (sym c.in-Some.is) (c.value_literals.ensures table s fits)

pub returns-in-None : goal.returns-in-None
returns-in-None c = λ table s fits. subst (λ (o : Option Value). Adds c.args.texts.now.items c.args.texts.now.items (first_literals s (maybe_value o))) (sym c.in-None.is) (none_added c.args.texts.now.items)
