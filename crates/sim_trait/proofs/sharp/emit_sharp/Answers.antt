use Rattle.sim_trait.proofs.Emitted.{faithful_sharply, answers_wider}
use Rattle.sim_trait.proofs.sharp.emit_sharp.Goals as goal

pub returns-clause-answers : goal.returns-clause-answers
returns-clause-answers g c =
    answers_wider _ _ _ _ _ _ _ c.emit_sharply.result
    (λ small text h. faithful_sharply _ _ _ _ _ _ c.args.p.now text h.0 h.1)
    c.emit_sharply.ensures.answers
