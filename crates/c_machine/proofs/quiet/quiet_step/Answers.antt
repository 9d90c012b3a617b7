use Rattle.c_machine.proofs.quiet.quiet_step.Goals as goal

pub returns-in-Push : goal.returns-in-Push
returns-in-Push c = λ byte. rw c.in-Push.is (c.push_constant.ensures byte)

pub returns-in-Unary : goal.returns-in-Unary
returns-in-Unary c = λ byte. rw c.in-Unary.is (rw c.deref.ensures.value at c.make.ensures)

pub returns-in-Operate : goal.returns-in-Operate
returns-in-Operate c = λ byte. rw c.in-Operate.is (rw c.deref-in-Operate.ensures.value at c.operate.ensures)

pub returns-in-Turn : goal.returns-in-Turn
returns-in-Turn c = λ byte. rw c.in-Turn.is (c.turn.ensures byte)
