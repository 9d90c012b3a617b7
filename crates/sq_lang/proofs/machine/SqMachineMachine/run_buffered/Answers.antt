use Rattle.std.proofs.Common.{[]}
use Rattle.sq_lang.proofs.machine.SqMachineMachine.run_buffered.Goals as goal

pub returns-clause-held : goal.returns-clause-held
returns-clause-held c = c.run_buffered.ensures.held []
