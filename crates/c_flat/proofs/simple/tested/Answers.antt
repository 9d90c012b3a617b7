use Rattle.std.proofs.Common.{Bor, Option, sym, subst}
use Rattle.std.specs.Prelude.{OnOk, option_map}
use Rattle.c_syntax.specs.declared.tree.Expr.{Expr}
use Rattle.c_syntax.specs.View.{expr_of}
use Rattle.c_eval.specs.State as run
use Rattle.c_eval.specs.LiteralsIn.{maybe_literals}
use Rattle.c_code.specs.Code as code
use Rattle.c_code.specs.Code.{maybe_test_code}
use Rattle.c_emitted.specs.Emits.{Emits}
use Rattle.c_fitting.specs.Whole.{MaybeIsFit}
use Rattle.c_flat.proofs.simple.tested.Goals as goal

pub returns-in_ok-judged-in-Some-clause-emits : goal.returns-in_ok-judged-in-Some-clause-emits
returns-in_ok-judged-in-Some-clause-emits c = λ site env here.
    subst (λ (o : Option (Bor Expr)). MaybeIsFit env.scope (option_map (λ x. expr_of x.now) o) → Emits c.args.out.now c.used.new.out (maybe_test_code (option_map (λ x. expr_of x.now) o) site env) (maybe_literals env.scope (option_map (λ x. expr_of x.now) o))) (sym c.in-Some.is)
    (λ fit. c.in_ok-judged-in-Some.ensures.emits site env here fit)

pub returns-in-None-clause-emits : goal.returns-in-None-clause-emits
returns-in-None-clause-emits c = λ site env here fit.
    subst (λ (o : Option (Bor Expr)). OnOk c.add.result (Emits c.args.out.now c.add.new.self (maybe_test_code (option_map (λ x. expr_of x.now) o) site env) (maybe_literals env.scope (option_map (λ x. expr_of x.now) o)))) (sym c.in-None.is)
    (c.add.ensures (code.Push (run.Word 1)) (record { means = λ names p e. c.wrap.ensures }))
