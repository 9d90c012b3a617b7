use Rattle.std.proofs.Common.{◌≡◌, Option, Some, None, refl, sym, subst}
use Rattle.std.specs.Prelude.{IfOk}
use Rattle.std.specs.Result.{result_err}
use Rattle.c_syntax.specs.View.{maybe_stmt}
use Rattle.c_syntax.specs.declared.tree.Stmt.{Stmt}
use Rattle.c_types.specs.Units.{body_judged, body_scope, around_body}
use Rattle.c_check.proofs.functions.judge_body.Goals as goal

pub returns-in-Some-clause-judged : goal.returns-in-Some-clause-judged
returns-in-Some-clause-judged c = λ s g h is.
    subst (λ (o : Option Stmt). IfOk c.judge_inner.result (λ r. r ≡ result_err (body_judged (body_scope s c.args.name.now g) (around_body g) (maybe_stmt o)))) (sym c.in-Some.is) (c.judge_inner.ensures.judged s g h is)

pub returns-in-None-clause-judged : goal.returns-in-None-clause-judged
returns-in-None-clause-judged c = λ s g h is.
    subst (λ (o : Option Stmt). None ≡ result_err (body_judged (body_scope s c.args.name.now g) (around_body g) (maybe_stmt o))) (sym c.in-None.is) refl

pub returns-in-None-clause-same : goal.returns-in-None-clause-same
returns-in-None-clause-same c = record { block = refl; outer = refl; layouts = refl; defined = refl }
