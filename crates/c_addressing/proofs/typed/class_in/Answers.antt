use Rattle.c_syntax.specs.View.{expr_of}
use Rattle.c_types.specs.Expressions.{judged}
use Rattle.c_addressing.proofs.typed.class_in.Goals as goal

pub class_of_judged-requires : goal.class_of_judged-requires
class_of_judged-requires c = let s = c.requires.0 in (judged s (expr_of c.args.e.now), c.in_ok-j.ensures.judged s c.requires.1)

pub returns-clause-class : goal.returns-clause-class
returns-clause-class c = λ s h. c.class_of_judged.ensures (judged s (expr_of c.args.e.now)) (c.in_ok-j.ensures.judged s h)
