use Rattle.std.proofs.Common.{Bor, Option, sym, subst}
use Rattle.std.specs.Prelude.{OnOk, option_map}
use Rattle.c_syntax.specs.declared.tree.Expr.{Expr}
use Rattle.c_syntax.specs.View.{expr_of}
use Rattle.c_eval.specs.LiteralsIn.{maybe_literals}
use Rattle.c_code.specs.Code.{maybe_effect_code}
use Rattle.c_emitted.specs.Emits.{Emits}
use Rattle.c_emitted.proofs.EmitLemmas.{nothing}
use Rattle.c_fitting.specs.Whole.{MaybeIsFit}
use Rattle.c_flat.proofs.simple.stepped.Goals as goal

pub returns-in-Some-clause-emits : goal.returns-in-Some-clause-emits
returns-in-Some-clause-emits c = λ site env here.
    subst (λ (o : Option (Bor Expr)). MaybeIsFit env.scope (option_map (λ x. expr_of x.now) o) → OnOk c.effect.result (Emits c.args.out.now c.effect.new.out (maybe_effect_code (option_map (λ x. expr_of x.now) o) site env) (maybe_literals env.scope (option_map (λ x. expr_of x.now) o)))) (sym c.in-Some.is)
    (λ fit. c.effect.ensures.emits site env here fit)

pub returns-in-None-clause-emits : goal.returns-in-None-clause-emits
returns-in-None-clause-emits c = λ site env here fit.
    subst (λ (o : Option (Bor Expr)). Emits c.args.out.now c.args.out.now (maybe_effect_code (option_map (λ x. expr_of x.now) o) site env) (maybe_literals env.scope (option_map (λ x. expr_of x.now) o))) (sym c.in-None.is) (nothing c.args.out.now)
