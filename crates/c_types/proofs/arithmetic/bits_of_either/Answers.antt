use Rattle.std.proofs.Common.{◌≡◌, ◌%◌, ◌^◌, ◌<◌, arith}
use Rattle.std.specs.Prelude.{bit_or}
use Rattle.std.proofs.lemmas.Nat.{or_lt}
use Rattle.c_types.proofs.arithmetic.bits_of_either.Goals as goal

pub returns : goal.returns
returns c =
    let small : bit_or c.get.result c.get-2.result < 2 ^ 24 = or_lt 24 c.get.result c.get-2.result c.get.ensures.in_range c.get-2.ensures.in_range in
    let whole : bit_or c.get.result c.get-2.result % 2 ^ 24 ≡ bit_or c.get.result c.get-2.result = omega arith in
    cc
