use Rattle.c_prep.specs.Prepared.{outcome}
use Rattle.c_prep.proofs.Giving.{fails_as, is_too_large, is_refused, is_made}
use Rattle.c_prep.proofs.output.Output.into_tokens.Goals as goal

pub returns-then-self : goal.returns-then-self
returns-then-self c = λ acts f. is_too_large c.args.self acts c.if-self.true f

pub returns-in-Some : goal.returns-in-Some
returns-in-Some c = λ acts f. fails_as c.in-Some.fault (outcome acts) (is_refused c.args.self acts c.in-Some.fault c.if-self.false c.in-Some.is f)

pub returns-in-None : goal.returns-in-None
returns-in-None c = λ acts f. is_made c.args.self acts c.if-self.false c.in-None.is f
