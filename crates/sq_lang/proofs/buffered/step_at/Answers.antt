use Rattle.std.proofs.Common.{w64}
use Rattle.std.proofs.lemmas.Int.{to_z-of_z}
use Rattle.sq_lang.proofs.buffered.step_at.Goals as goal

pub returns-in-None : goal.returns-in-None
returns-in-None c =
    let at_is = to_z-of_z w64 c.args.at c.ranges.at in
    rw (c.in-None.ensures, at_is) at c.exchange_at.ensures
