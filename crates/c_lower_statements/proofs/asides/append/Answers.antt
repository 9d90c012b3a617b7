use Rattle.std.proofs.Common.{refl}
use Rattle.c_addressing.proofs.HereLemmas.{added}
use Rattle.c_lower_statements.proofs.asides.append.Goals as goal

pub returns : goal.returns
returns c = added c.args.out.now (record c.args.out.now { ops = c.put_all.new.ops }) c.args.more.now refl c.in_ok-put_all.ensures refl
