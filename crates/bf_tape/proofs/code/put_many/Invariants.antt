use Rattle.std.proofs.Common.{◌≡◌, ◌++◌, ◌-◌}
use Rattle.bf_tape.specs.Code.{many}
use Rattle.bf_tape.proofs.code.put_many.Given as goal

abbrev pub invariant-loop : goal.invariant-loop
invariant-loop l = l.code.items ++ many (l.count - l.counter) l.command ≡ l.fn.code.items ++ many l.count l.command
