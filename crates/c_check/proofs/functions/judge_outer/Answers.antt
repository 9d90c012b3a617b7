use Rattle.std.proofs.Common.{◌≡◌, Option, Some, sym, subst}
use Rattle.std.specs.Prelude.{IfOk}
use Rattle.std.specs.Result.{result_err}
use Rattle.c_syntax.specs.View.{stmt_of}
use Rattle.c_types.specs.Refusals.{Judged}
use Rattle.c_types.specs.Scope.{Scope}
use Rattle.c_statements.specs.Trees.{stmts_of}
use Rattle.c_check.proofs.BodyLemmas.{some_block, no_block}
use Rattle.c_check.proofs.functions.judge_outer.Goals as goal

pub returns-in-Some-clause-judged : goal.returns-in-Some-clause-judged
returns-in-Some-clause-judged c = λ s w h is.
    subst (λ (p : Judged Scope). IfOk c.state_all.result (λ r. r ≡ result_err p)) (some_block s w (stmt_of c.args.body.now) (stmts_of c.in-Some.all.now) c.in-Some.ensures) (c.state_all.ensures.judged s w h is)

pub returns-in-None-clause-judged : goal.returns-in-None-clause-judged
returns-in-None-clause-judged c = λ s w h is.
    subst (λ (p : Judged Scope). IfOk c.state.result (λ r. r ≡ result_err p)) (no_block s w (stmt_of c.args.body.now) c.in-None.ensures) (c.state.ensures.judged s w h is)
