use Rattle.std.proofs.Common.{sym, ◌∙◌}
use Rattle.c_fewer_expressions.proofs.NamedLemmas.{puts_named, built_in_named}
use Rattle.c_fewer_expressions.proofs.names.built_in.Goals as goal

pub returns-then-is_word : goal.returns-then-is_word
returns-then-is_word c = λ s t pos is.
    puts_named s pos c.args.name.now t is (sym c.if-is_word.true ∙ c.is_word.ensures)

pub returns-else-is_word : goal.returns-else-is_word
returns-else-is_word c = λ s t pos is.
    built_in_named s pos c.args.name.now t is (sym c.if-is_word.false ∙ c.is_word.ensures)
