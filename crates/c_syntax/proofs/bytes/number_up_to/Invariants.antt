use Rattle.std.proofs.Common.{◌≡◌, min, ◌^◌, take}
use Rattle.c_syntax.specs.Bytes.{value_of}
use Rattle.c_syntax.proofs.bytes.number_up_to.Given as goal

-- the digits so far
abbrev pub invariant-loop-digit : goal.invariant-loop-digit
invariant-loop-digit l = l.number ≡ min (value_of l.radix (take l.digit-index l.digits)) (2 ^ 24)
