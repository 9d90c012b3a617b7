use Rattle.c_held.specs.View.{made_of, values_of}
use Rattle.c_parse.proofs.Parts.{still_going, given_on, less_left}
use Rattle.c_progress.proofs.Rooms.{made_fits}
use Rattle.c_parse.proofs.machine.hand_over.Goals as goal

pub take_part-requires-clause-fit : goal.take_part-requires-clause-fit
take_part-requires-clause-fit c = made_fits c.args.ended.production (values_of c.args.ended.done.items) c.in_ok-part.part c.in_ok-part.ensures.gives c.in_ok-part.ensures.words

pub returns-clause-going : goal.returns-clause-going
returns-clause-going c = still_going c.in_ok-progress.progress c.args.frame.production c.args.stack.now.items _ _ c.in_ok-progress.ensures c.requires.stands.below

pub returns-clause-same : goal.returns-clause-same
returns-clause-same c = given_on c.in_ok-progress.progress c.args.ended.production (values_of c.args.ended.done.items) c.in_ok-part.part c.args.frame c.args.token.now c.args.stack.now.items _ c.in_ok-part.ensures.gives c.in_ok-progress.ensures

pub returns-clause-less : goal.returns-clause-less
returns-clause-less c = less_left c.in_ok-progress.progress c.args.frame.production c.args.stack.now.items _ _ c.in_ok-progress.ensures
