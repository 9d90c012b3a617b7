use Rattle.c_machine.proofs.silent.try_step.Goals as goal

pub returns-in-None : goal.returns-in-None
returns-in-None c = rw c.in-None.ensures at (c.in-Err.ensures 0)
