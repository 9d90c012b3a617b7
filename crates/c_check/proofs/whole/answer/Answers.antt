use Rattle.std.proofs.Common.{◌≡◌, Some, None, sym, ◌∙◌}
use Rattle.c_check.proofs.AnswerLemmas.{refused, typed, without_main}
use Rattle.c_check.proofs.whole.answer.Goals as goal

pub returns-in-Some : goal.returns-in-Some
returns-in-Some c = λ u are main end. refused u c.in-Some.fault (sym c.in-Some.is ∙ are.refusal)

pub returns-then-has_main : goal.returns-then-has_main
returns-then-has_main c = λ u are main end. c.within.ensures u are ∙ typed u (sym c.in-None.is ∙ are.refusal) (sym main ∙ c.if-has_main.true)

pub returns-else-has_main : goal.returns-else-has_main
returns-else-has_main c = λ u are main end. without_main u c.args.end (sym c.in-None.is ∙ are.refusal) (sym main ∙ c.if-has_main.false) end
