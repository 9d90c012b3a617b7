use Rattle.sim_trait.proofs.Emitted.{faithful_from, answers_wider}
use Rattle.sim_trait.proofs.backend.emit_to.Goals as goal

pub returns-clause-answers : goal.returns-clause-answers
returns-clause-answers g c =
    answers_wider _ _ _ _ _ _ _ c.emit.result
    (λ small text h. faithful_from _ _ _ _ _ c.args.p.now text h.0 h.1)
    c.emit.ensures.answers
