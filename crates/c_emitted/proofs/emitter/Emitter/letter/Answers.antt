use Rattle.c_eval.specs.State as run
use Rattle.c_code.specs.Code as code
use Rattle.c_resolved.specs.Same as same
use Rattle.c_resolved.specs.Same.{IsOwner}
use Rattle.c_store.specs.Values as values
use Rattle.c_emitted.proofs.TableLemmas.{begins_get, begins_then}
use Rattle.c_emitted.proofs.EmitLemmas.{on_ok, both, owner_kept}
use Rattle.c_emitted.proofs.emitter.Emitter.letter.Goals as goal

pub returns : goal.returns
returns c = λ owner owns.
    let l = c.in_ok-literal.literal in
    let a = c.args.self.now in
    on_ok c.constant.result (both c.in_ok-literal.ensures.emits)
    (c.constant.ensures (code.Push (run.Letter owner a.before c.args.text.now 0)) (record {
      means = λ names p k e found. (
        values.Letter l 0,
        found,
        same.letter owner l (record { owner = a.owner; number = a.before; text = c.args.text.now }) 0 (begins_get e.literals l _ c.in_ok-literal.ensures.literal)
            (owner_kept (begins_then c.in_ok-literal.ensures.emits.tables.names e.names) owns),
      );
    }))
