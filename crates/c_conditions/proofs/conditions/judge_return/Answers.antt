use Rattle.std.proofs.Common.{◌≡◌, Bool, [], ◌∷◌, Option, sym, ap, subst, ◌∙◌}
use Rattle.std.specs.Prelude.{IfOk}
use Rattle.std.specs.Result.{result_err}
use Rattle.c_syntax.specs.View.{maybe}
use Rattle.c_types.specs.declared.fault.TypeFault.TheVariants as fault
use Rattle.c_types.specs.Types.{is_void}
use Rattle.c_syntax.specs.declared.tree.Expr.{Expr}
use Rattle.c_types.specs.Refusals.{broken, after, keeping}
use Rattle.c_types.specs.Expressions.{judged}
use Rattle.c_types.specs.Statements.{return_rules, maybe_judged}
use Rattle.c_operands.specs.Classes.{void}
use Rattle.c_operands.proofs.ClassLemmas.{class_says}
use Rattle.c_conditions.proofs.VerdictLemmas.{keeping_refused}
use Rattle.c_conditions.proofs.conditions.judge_return.Goals as goal

pub returns-in-Some-clause-judged : goal.returns-in-Some-clause-judged
returns-in-Some-clause-judged c = λ s t fits h.
    subst (λ (o : Option Expr). IfOk c.judge_result.result (λ r. r ≡ result_err (after (maybe_judged s (maybe o)) (λ a. keeping (return_rules c.args.at t a) s)))) (sym c.in-Some.is)
    (c.judge_result.ensures.judged s t fits h)

pub returns-in-None-clause-judged : goal.returns-in-None-clause-judged
returns-in-None-clause-judged c = λ s t fits h.
    let rules = (is_void t, fault.Mismatch c.args.at) ∷ [] in
    c.broken.ensures
    ∙ (ap (λ (b : Bool). broken ((b, fault.Mismatch c.args.at) ∷ [])) (c.is_void-kept.ensures ∙ (ap void (c.class_of.ensures t h) ∙ sym (class_says t).void))
    ∙ sym (ap (λ (o : Option Expr). result_err (after (maybe_judged s (maybe o)) (λ a. keeping (return_rules c.args.at t a) s))) c.in-None.is ∙ keeping_refused rules s))
