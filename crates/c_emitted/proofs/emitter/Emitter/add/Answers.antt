use Rattle.std.proofs.Common.{refl}
use Rattle.c_emitted.proofs.EmitLemmas.{on_ok, one}
use Rattle.c_emitted.proofs.emitter.Emitter.add.Goals as goal

pub returns : goal.returns
returns c = λ i m. on_ok c.push.result (λ e. one c.args.self.now (record c.args.self.now { code = c.push.new.self }) i c.args.instruction e refl (record { owner = refl; objects = refl; files = refl }) refl m) c.push.ensures.ok
