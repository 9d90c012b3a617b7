use Rattle.std.proofs.Common.{Option, refl, sym, subst}
use Rattle.std.specs.Prelude.{OnOk}
use Rattle.c_syntax.specs.declared.tree.Expr.{Expr}
use Rattle.c_syntax.specs.View.{maybe}
use Rattle.c_eval.specs.LiteralsIn.{maybe_literals}
use Rattle.c_code.specs.Code as code
use Rattle.c_code.specs.Code.{return_code}
use Rattle.c_emitted.specs.Emits.{Emits}
use Rattle.c_emitted.proofs.EmitLemmas.{on_ok, both, later}
use Rattle.c_fitting.specs.Whole.{MaybeIsFit}
use Rattle.c_flat.proofs.simple.returned.Goals as goal

pub returns-in_ok-judged-in-Some-clause-emits : goal.returns-in_ok-judged-in-Some-clause-emits
returns-in_ok-judged-in-Some-clause-emits c = λ site env here.
    subst (λ (o : Option Expr). MaybeIsFit env.scope (maybe o) → OnOk c.add.result (Emits c.args.out.now c.add.new.self (return_code (maybe o) site env) (maybe_literals env.scope (maybe o)))) (sym c.in-Some.is)
    (λ fit. on_ok c.add.result (later (c.in_ok-judged-in-Some.ensures.emits site env here fit)) (c.add.ensures code.Return (record { means = λ names p e. refl })))

pub returns-in_ok-missing-in-None-clause-emits : goal.returns-in_ok-missing-in-None-clause-emits
returns-in_ok-missing-in-None-clause-emits c = λ site env here fit.
    subst (λ (o : Option Expr). OnOk c.add-in-None.result (Emits c.args.out.now c.add-in-None.new.self (return_code (maybe o) site env) (maybe_literals env.scope (maybe o)))) (sym c.in-None.is)
    (on_ok c.add-in-None.result (both c.in_ok-missing-in-None.ensures) (c.add-in-None.ensures code.Return (record { means = λ names p e. refl })))
