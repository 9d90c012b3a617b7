use Rattle.c_syntax.specs.View.{ty_of, decls_of}
use Rattle.c_lower.proofs.BodyLemmas.{no_body}
use Rattle.c_lower.proofs.bodies.add_body.Goals as goal

pub returns-in-None-clause-adds : goal.returns-in-None-clause-adds
returns-in-None-clause-adds c = λ s holds. no_body c.args.bodies.now s c.args.name.now c.args.at (ty_of c.args.gives.now) (decls_of c.args.parameters.now.items.items) c.args.body.now c.in-None.is
