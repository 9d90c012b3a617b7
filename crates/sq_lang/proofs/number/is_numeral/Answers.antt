use Rattle.std.proofs.Common.{length}
use Rattle.sq_lang.proofs.Digits.{numeral_decides, some_of}
use Rattle.sq_lang.proofs.number.is_numeral.Goals as goal

pub returns-then-not-is_empty : goal.returns-then-not-is_empty
returns-then-not-is_empty c =
    numeral_decides c.args.bytes.now c.are_digits.result (some_of (length c.args.bytes.now) c.is_empty.result c.is_empty.ensures c.if-not-is_empty.true) c.are_digits.ensures
