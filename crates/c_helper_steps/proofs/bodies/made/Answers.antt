use Rattle.std.proofs.Common.{◌+◌, List, drop, sym, ap, ◌∙◌}
use Rattle.c_helper_steps.specs.Postfix.{Parts, last_stmt, after_all}
use Rattle.c_helper_steps.specs.declared.steps.Step.{Step}
use Rattle.c_helper_steps.specs.Seen.{seen}
use Rattle.std.proofs.lemmas.List.{drop_all, drop_more}
use Rattle.c_helper_steps.proofs.bodies.made.Goals as goal

pub loop-next-preserved : goal.loop-next-preserved
loop-next-preserved c =
    let steps = c.args.steps.now in
    let i = c.loop-next.next-index in
    ap (λ (p : Parts). after_all p (drop (i + 1) steps)) c.in_ok-step.ensures
    ∙ (sym (ap (λ (l : List Step). after_all (seen c.loop-next.parts) l) (drop_more steps i _ c.loop-next-test.true)) ∙ c.loop-next.invariant)

pub returns : goal.returns
returns c =
    let steps = c.args.steps.now in
    c.take_statement.ensures.value
    ∙ ap last_stmt (sym (ap (λ (l : List Step). after_all (seen c.loop-next.parts) l) (drop_all c.loop-next.next-index steps c.loop-next-test.false)) ∙ c.loop-next.invariant)
