use Rattle.c_expressions.proofs.ToldLemmas.{nothing_refused, something_refused}
use Rattle.c_expressions.proofs.collected.Collected.judged.Goals as goal

pub returns-in-None : goal.returns-in-None
returns-in-None c = λ table xs h.
    nothing_refused table c.args.self.refusal c.args.self.arguments xs c.in-None.is h

pub returns-in-Some : goal.returns-in-Some
returns-in-Some c = λ table xs h.
    something_refused table c.args.self.refusal c.in-Some.fault xs c.in-Some.is
