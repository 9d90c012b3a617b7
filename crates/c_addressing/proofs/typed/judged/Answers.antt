use Rattle.std.proofs.Common.{refl}
use Rattle.c_addressing.proofs.HereLemmas.{some_fits, still}
use Rattle.c_addressing.proofs.typed.judged.Goals as goal

pub judge-requires : goal.judge-requires
judge-requires c = some_fits c.args.out.now.types c.args.here.now.declared c.requires

pub returns-clause-judged : goal.returns-clause-judged
returns-clause-judged c = λ s h. c.in_ok-j.ensures.judged s h.fits

pub returns-clause-still : goal.returns-clause-still
returns-clause-still c = still c.args.out.now (record c.args.out.now { types = c.judge.new.types }) c.in_ok-j.ensures.grows c.in_ok-j.ensures.tags refl refl
