use Rattle.std.proofs.Common.{◌-◌, refl, sym, arith}
use Rattle.std.specs.VecDeque.{deque_len}
use Rattle.c_prep.proofs.Reading.{last_open}
use Rattle.c_prep.proofs.lines.left_open.Goals as goal

pub returns-in-Some : goal.returns-in-Some
returns-in-Some c =
    sym (last_open c.args.opens.now.items (deque_len c.args.opens.now - 1) c.in-Some.open.now (omega (arith, c.in-Some.ensures.variant.0 refl, c.args.opens.now.ok)) c.in-Some.ensures.lookup)
