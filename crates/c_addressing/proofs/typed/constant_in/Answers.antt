use Rattle.c_syntax.specs.View.{expr_of}
use Rattle.c_types.specs.Expressions.{judged}
use Rattle.c_addressing.proofs.typed.constant_in.Goals as goal

pub returns-clause-word : goal.returns-clause-word
returns-clause-word c = λ s h. c.word_of_judged.ensures c.judged.new.out.types (judged s (expr_of c.args.e.now)) (c.in_ok-j.ensures.judged s h)
