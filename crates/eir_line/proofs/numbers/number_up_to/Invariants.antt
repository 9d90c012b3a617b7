use Rattle.std.proofs.Common.{◌≡◌, min, ◌^◌, take}
use Rattle.eir_line.specs.Numbers.{value_of}
use Rattle.eir_line.proofs.numbers.number_up_to.Given as goal

-- the digits so far
abbrev pub invariant-loop-digit : goal.invariant-loop-digit
invariant-loop-digit l = l.number ≡ min (value_of l.radix (take l.digit-index l.digits)) (2 ^ 24)
