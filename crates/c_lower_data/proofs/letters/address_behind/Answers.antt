use Rattle.std.proofs.Common.{◌+◌, length}
use Rattle.c_lower_data.proofs.letters.address_behind.Goals as goal

pub returns : goal.returns
returns c = λ k h. let n = length c.args.text.now in c.next.ensures (k + n) (c.plus.ensures k n h c.low.ensures)
