use Rattle.c_emitted.proofs.EmitLemmas.{on_ok, lengths_grown}
use Rattle.c_emitted.proofs.emitter.Emitter.lengths.Goals as goal

pub returns-clause-emits : goal.returns-clause-emits
returns-clause-emits c = on_ok c.push_entries.result (λ e. lengths_grown c.args.self.now c.push_entries.new.table c.args.lengths.now e) c.push_entries.ensures.ok
