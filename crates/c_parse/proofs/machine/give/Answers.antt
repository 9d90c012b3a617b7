use Rattle.std.proofs.Common.{[], refl}
use Rattle.c_frames.specs.Stack.{opens}
use Rattle.c_progress.specs.Progress.{given}
use Rattle.c_parse.proofs.Parts.{ended_going, moved_there, stuck_there, none_above, given_over, less_over}
use Rattle.c_parse.proofs.machine.give.Goals as goal

pub endings-init : goal.endings-init
endings-init c = (c.requires.going, refl)

pub pop-requires : goal.pop-requires
pop-requires c = (ended_going c.endings.progress c.in-Finished.ended c.endings.stack.items c.in-Finished.is c.endings.invariant.0).0

pub hand_over-requires-clause-whole : goal.hand_over-requires-clause-whole
hand_over-requires-clause-whole c = (ended_going c.endings.progress c.in-Finished.ended c.endings.stack.items c.in-Finished.is c.endings.invariant.0).1

pub hand_over-requires-clause-stands : goal.hand_over-requires-clause-stands
hand_over-requires-clause-stands c = c.in-Some.ensures.stands

pub endings-preserved : goal.endings-preserved
endings-preserved c = (
  c.in_ok-next-in-Finished.ensures.going,
  given_over c.endings.progress c.in_ok-next-in-Finished.next c.in-Finished.ended c.in-Some.frame c.endings.stack.items c.pop.new.stack.items c.hand_over.new.stack.items c.args.token.now (given c.args.progress c.args.token.now (opens c.args.stack.now.items []))
      c.in-Finished.is c.in-Some.ensures.top c.endings.invariant.1 c.in_ok-next-in-Finished.ensures.same,
)

pub endings-smaller : goal.endings-smaller
endings-smaller c = less_over c.endings.progress c.in-Finished.ended c.endings.stack.items c.pop.new.stack.items _ c.in-Finished.is c.in-Some.ensures.len c.in_ok-next-in-Finished.ensures.less

pub returns-in-Moved : goal.returns-in-Moved
returns-in-Moved c = moved_there c.endings.progress c.in-Moved.depth c.endings.stack.items c.args.token.now _ c.in-Moved.is c.endings.invariant.0 c.endings.invariant.1

pub returns-in-Stuck : goal.returns-in-Stuck
returns-in-Stuck c = stuck_there c.endings.progress c.endings.stack.items c.args.token.now _ c.in-Stuck.is c.endings.invariant.1

pub returns-in_default : goal.returns-in_default
returns-in_default c = none_above c.endings.progress c.in-Finished.ended c.endings.stack.items c.args.token.now _ c.in-Finished.is c.in_default.ensures.top c.endings.invariant.1
