use Rattle.c_emitted.proofs.EmitLemmas.{on_ok, pushed}
use Rattle.c_emitted.proofs.emitter.Emitter.constant.Goals as goal

pub returns : goal.returns
returns c = λ i m. on_ok c.push.result (pushed c.args.self.now c.push_entry.new.table c.push.new.self i c.args.value c.in_ok-number.number c.in_ok-number.ensures.ok c.in_ok-number.ensures.number m) c.push.ensures.ok
