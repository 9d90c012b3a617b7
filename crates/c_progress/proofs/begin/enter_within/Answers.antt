use Rattle.c_progress.proofs.Begins.{entered_on}
use Rattle.c_progress.proofs.begin.enter_within.Goals as goal

pub enter-requires-clause-sound : goal.enter-requires-clause-sound
enter-requires-clause-sound c = c.in_ok-push.ensures.sound

pub returns : goal.returns
returns c = λ p old. c.progress_of.ensures p old _ _ (entered_on c.in_ok-read.read c.args.production c.args.token.now c.push.new.stack.items c.enter.new.stack.items _ c.in_ok-push.ensures c.in_ok-read.ensures)
