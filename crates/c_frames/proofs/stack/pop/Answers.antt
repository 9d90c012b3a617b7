use Rattle.c_frames.proofs.Stacks.{popped_top, popped_on, popped_len}
use Rattle.c_frames.proofs.stack.pop.Goals as goal

pub returns-clause-top : goal.returns-clause-top
returns-clause-top c = popped_top c.pop.result c.args.stack.now.items c.pop.new.self.items _ _ c.pop.ensures.items c.pop.ensures.cases c.args.stack.now.ok.0

pub returns-clause-stands : goal.returns-clause-stands
returns-clause-stands c = popped_on c.pop.result c.args.stack.now.items c.pop.new.self.items _ _ c.pop.ensures.items c.pop.ensures.cases c.pop.new.self.ok.0 c.requires

pub returns-clause-len : goal.returns-clause-len
returns-clause-len c = popped_len c.pop.result c.args.stack.now.items c.pop.new.self.items _ _ c.pop.ensures.cases c.args.stack.now.ok.0 c.pop.new.self.ok.0
