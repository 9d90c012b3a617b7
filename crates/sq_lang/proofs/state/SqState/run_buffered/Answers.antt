use Rattle.sq_lang.proofs.HeldSteps.{unfaulted}
use Rattle.sq_lang.proofs.state.SqState.run_buffered.Goals as goal

pub returns-in-None-clause-held : goal.returns-in-None-clause-held
returns-in-None-clause-held c = λ program.
    unfaulted program c.args.self.now c.self.inside.address c.run_buffered.new.address c.self.inside.cells c.run_buffered.new.cells c.self.inside.fault c.run_buffered.result (record { held = c.args.feed.now; put = c.args.put.now }) (record { held = c.run_buffered.new.feed; put = c.run_buffered.new.put }) c.self.view_is c.in-None.is (c.run_buffered.ensures.held program)
