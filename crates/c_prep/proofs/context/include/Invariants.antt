use Rattle.std.specs.VecDeque.{deque_len}
use Rattle.c_prep.specs.Lines.{header_acts, given}
use Rattle.c_prep.proofs.Reading.{Partway}
use Rattle.c_prep.proofs.context.include.Given as goal

-- the tokens so far and those that are left are all
abbrev pub invariant-loop-token : goal.invariant-loop-token
invariant-loop-token l = Partway l.fn.out l.out (header_acts l.fn.included l.fn.header l.at) (given l.tokens.items)

abbrev pub decreases-loop-token : goal.decreases-loop-token
decreases-loop-token l = deque_len l.tokens
