use Rattle.std.proofs.Common.{map, drop}
use Rattle.c_syntax.specs.Plain.{values}
use Rattle.c_syntax.specs.View.{value_of}
use Rattle.c_declarations.specs.Sites.{values_of}
use Rattle.c_eval.specs.LiteralsIn.{values_literals}
use Rattle.c_lower_literals.proofs.ArgumentLemmas.{Adding}
use Rattle.c_lower_literals.proofs.values.+values.Given as goal

abbrev pub invariant-values_literals-loop-value : goal.invariant-values_literals-loop-value
invariant-values_literals-loop-value l =
    Adding l.declared l.fn.texts.items l.texts.items (λ s. values_literals s (values (map value_of (drop l.value-index l.all.items.items)))) (λ s. values_literals s (values_of l.all))
