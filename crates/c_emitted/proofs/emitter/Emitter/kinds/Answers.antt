use Rattle.c_emitted.proofs.EmitLemmas.{on_ok, kinds_grown}
use Rattle.c_emitted.proofs.emitter.Emitter.kinds.Goals as goal

pub returns-clause-emits : goal.returns-clause-emits
returns-clause-emits c = on_ok c.push_entries.result (λ e. kinds_grown c.args.self.now c.push_entries.new.table c.args.kinds.now e) c.push_entries.ensures.ok
