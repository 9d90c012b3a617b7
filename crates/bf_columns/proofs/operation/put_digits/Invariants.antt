use Rattle.std.proofs.Common.{◌≡◌, ◌++◌, ◌-◌}
use Rattle.bf_columns.specs.Number.{digits_code}
use Rattle.bf_columns.proofs.operation.put_digits.Given as goal

abbrev pub invariant-loop : goal.invariant-loop
invariant-loop l = l.code.items ++ digits_code l.rest (l.fn.digits - l.counter) ≡ l.fn.code.items ++ digits_code l.fn.number l.fn.digits
