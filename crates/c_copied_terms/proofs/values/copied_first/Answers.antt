use Rattle.std.proofs.Common.{Option, Some, sym, ap, ◌∙◌}
use Rattle.c_syntax.specs.View.{maybe_value}
use Rattle.c_syntax.specs.declared.tree.Value.{Value}
use Rattle.c_copied_terms.proofs.values.copied_first.Goals as goal

pub returns-in_ok-copy-in-Some : goal.returns-in_ok-copy-in-Some
returns-in_ok-copy-in-Some c = ap Some c.in_ok-copy-in-Some.ensures ∙ ap (λ (o : Option Value). maybe_value o) (sym c.in-Some.is)

pub returns-in-None : goal.returns-in-None
returns-in-None c = ap (λ (o : Option Value). maybe_value o) (sym c.in-None.is)
