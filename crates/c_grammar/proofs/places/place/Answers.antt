use Rattle.std.proofs.Common.{ap, sym, ◌∙◌, slice_get}
use Rattle.c_grammar.specs.Grammar.{function_core, rhs}
use Rattle.c_grammar.proofs.places.place.Goals as goal

pub returns-in-FunctionCore : goal.returns-in-FunctionCore
unfolding rhs
returns-in-FunctionCore c = c.function_place.ensures ∙ ap (λ z. slice_get (function_core z) c.args.index) c.length.ensures ∙ ap (λ p. slice_get (rhs p) c.args.index) (sym c.in-FunctionCore.is)
