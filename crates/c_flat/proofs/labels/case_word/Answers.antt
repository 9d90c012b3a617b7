use Rattle.c_syntax.specs.View.{expr_of}
use Rattle.c_types.specs.Expressions.{judged}
use Rattle.c_flat.proofs.labels.case_word.Goals as goal

pub returns-clause-word : goal.returns-clause-word
returns-clause-word c = λ s fits. c.word_of.ensures c.judge.new.types (judged s (expr_of c.args.e.now)) (c.in_ok-a.ensures.judged s fits)
