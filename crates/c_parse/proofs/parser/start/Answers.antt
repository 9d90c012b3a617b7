use Rattle.std.proofs.Common.{List, [], ◌∷◌, ◌∙◌, subst, sym}
use Rattle.c_frames.specs.Stack.{StandsOn}
use Rattle.c_parse.proofs.Readings.{started, none_sound}
use Rattle.c_parse.proofs.parser.start.Goals as goal

pub opened-requires-clause-sound : goal.opened-requires-clause-sound
opened-requires-clause-sound c = none_sound c.deref.result.now (c.deref.ensures.value ∙ c.new-stack.ensures.items)

pub push-requires : goal.push-requires
push-requires c = subst (StandsOn c.in_ok-first.first) c.deref.ensures.value c.in_ok-first.ensures.stands

pub returns-clause-start : goal.returns-clause-start
returns-clause-start c = started c.in_ok-first.first c.new-stack.result.items c.push.new.stack.items c.new-stack.ensures.items c.in_ok-first.ensures.production c.in_ok-first.ensures.done c.in_ok-first.ensures.row c.in_ok-push.ensures

pub returns-clause-sound : goal.returns-clause-sound
returns-clause-sound c = c.in_ok-push.ensures.sound
