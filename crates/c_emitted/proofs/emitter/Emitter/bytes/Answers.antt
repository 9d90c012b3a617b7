use Rattle.c_emitted.proofs.EmitLemmas.{on_ok, bytes_grown}
use Rattle.c_emitted.proofs.emitter.Emitter.bytes.Goals as goal

pub returns-clause-emits : goal.returns-clause-emits
returns-clause-emits c = on_ok c.push_entries.result (λ e. bytes_grown c.args.self.now c.push_entries.new.table c.args.bytes.now e) c.push_entries.ensures.ok
