use Rattle.std.proofs.Common.{List, [], ap}
use Rattle.c_grammar.specs.Grammar.{rhs}
use Rattle.c_grammar.specs.Values as machine
use Rattle.c_held.specs.View.{made_of}
use Rattle.c_progress.proofs.Begins.{comes_as}
use Rattle.c_parse.proofs.machine.wrap_within.Goals as goal

pub wrap-requires-clause-sound : goal.wrap-requires-clause-sound
wrap-requires-clause-sound c = c.in_ok-push.ensures.sound

pub returns : goal.returns
returns c =
    λ p old.
    comes_as c.in_ok-progress.progress p old _ _ _
    (ap (λ s. machine.wraps (rhs c.args.production) c.args.production c.args.part.facts.category (made_of c.args.part) c.args.token.now s) c.in_ok-push.ensures.opens_are)
    (c.in_ok-progress.ensures p old)
