use Rattle.std.proofs.Common.{refl}
use Rattle.c_addressing.proofs.HereLemmas.{added}
use Rattle.c_addressing.proofs.operators.lifted.Goals as goal

pub returns : goal.returns
returns c = added c.args.out.now (record c.args.out.now { ops = c.put_lifted.new.ops }) _ refl c.in_ok-put_lifted.ensures refl
