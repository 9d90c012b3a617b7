use Rattle.std.proofs.Common.{◌≡◌, ◌%◌, ◌^◌, ◌<◌, arith}
use Rattle.std.specs.Prelude.{bit_xor}
use Rattle.std.proofs.lemmas.Nat.{xor_lt}
use Rattle.c_types.proofs.arithmetic.bits_of_one.Goals as goal

pub returns : goal.returns
returns c =
    let small : bit_xor c.get.result c.get-2.result < 2 ^ 24 = xor_lt 24 c.get.result c.get-2.result c.get.ensures.in_range c.get-2.ensures.in_range in
    let whole : bit_xor c.get.result c.get-2.result % 2 ^ 24 ≡ bit_xor c.get.result c.get-2.result = omega arith in
    cc
