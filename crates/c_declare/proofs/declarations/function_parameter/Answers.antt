use Rattle.std.proofs.Common.{sym, ap, ◌∙◌}
use Rattle.c_grammar.specs.Tree.{function_parameter, Several}
use Rattle.c_held.specs.View.{meaning_of, means}
use Rattle.c_declare.proofs.declarations.function_parameter.Goals as goal

pub returns-in-Some : goal.returns-in-Some
returns-in-Some c = λ f h.
    c.named.ensures (meaning_of c.in-Some.name.now) f c.take_token.ensures.name c.take_token.ensures.pos h
    ∙ ap (λ z. function_parameter (Several z) f) (sym c.in-Some.ensures)
    ∙ ap (λ z. function_parameter (means z) f) (sym c.in-Row.is)
