-- The tree of a complement does what the operator does.
use Rattle.std.proofs.Common.{◌≡◌, ℕ, List, [], ◌∷◌, Some, refl, ap, ◌∙◌}
use Rattle.std.specs.Prelude.{codes}
use Rattle.c_syntax.specs.Plain as plain
use Rattle.c_syntax.specs.Plain.{CExpr}
use Rattle.c_syntax.specs.declared.tree.UnOp.TheVariants as unary
use Rattle.c_syntax.specs.declared.tree.BinOp.TheVariants as binary
use Rattle.c_types.specs.Types as type
use Rattle.c_types.specs.Types.{CType, CTypes, NoType, MoreType}
use Rattle.c_types.specs.Expressions.{format_of}
use Rattle.c_types.specs.Scope.{entity_of}
use Rattle.c_eval.specs.State.{Value, State, Run}
use Rattle.c_eval.specs.Run.{◌>>=◌}
use Rattle.c_eval.specs.Operators.{used, all_converted, on_word}
use Rattle.c_eval.specs.Environment.{Environment, named_callee}
use Rattle.c_eval.specs.Eval.{World, call, value_of, values_of, values_behind}
use Rattle.c_valid.specs.Valid.{IsValid}
use Rattle.c_valid.proofs.Keeping.{bind_keeps}
use Rattle.c_valid.proofs.Operators.{used_keeps}
use Rattle.c_helpers.specs.Fewer.{helper_call}
use Rattle.c_helpers.specs.Meanings.{of_one}
use Rattle.c_fewer_types.specs.Stands.{helper_type}
use Rattle.c_fewer_values.specs.Helping.{Helps}
use Rattle.c_fewer_values.specs.Laws.{ComplementsAreEvaluated}
use Rattle.c_fewer_values.proofs.Runs.{bind_same, together, first_is, Solid, one_argument}
use Rattle.c_fewer_values.proofs.Actions.{of_word_solid, result_solid}
use Rattle.c_fewer_values.proofs.Operators.{acts_as, none_before, cast_runs}

one_is : (f : Value → Run Value) (x : Value) → of_one f (x ∷ []) ≡ f x
unfolding of_one
one_is f x = refl

complement_solid : (x : Value) → Solid (on_word unary.Invert x)
unfolding on_word
complement_solid x = of_word_solid x _ (λ n. result_solid binary.Add _)

one_run : (w : World) (here : Environment) (at : ℕ) (name : List ℕ) (result : CType) (params : CTypes) (a : CExpr) (st : State) → helper_type name ≡ Some (type.Function result params) → Helps w here.scope name
    → value_of (helper_call at name (a ∷ [])) w here st ≡ ((value_of a w here >>= used) >>= λ x. w.calls name (all_converted params (x ∷ []))) st
unfolding call
one_run w here at name result params a st e p =
    ap (λ h. call w (named_callee name (entity_of here.scope name)) (format_of (plain.exprs (a ∷ []))) (value_of (plain.Var at name) w here >>= used) (values_of (plain.exprs (a ∷ [])) w h) (values_behind (plain.exprs (a ∷ [])) w here) st) (none_before w here at name)
    ∙ (ap (λ o. call w (named_callee name o) (format_of (plain.exprs (a ∷ []))) (value_of (plain.Var at name) w here >>= used) (values_of (plain.exprs (a ∷ [])) w here) (values_behind (plain.exprs (a ∷ [])) w here) st) (p.known (type.Function result params) e).1
    ∙ one_argument (value_of a w here >>= used) (λ vs. w.calls name (all_converted params vs)) st)

pub complements_are_evaluated : ComplementsAreEvaluated
complements_are_evaluated w here at result a st helps void left v =
    let name : List ℕ = codes "~" in
    let A : Run Value = value_of a w here >>= used in
    let params : CTypes = MoreType type.Int NoType in
    cast_runs w here at result (helper_call at name (a ∷ [])) st void
    ∙ (first_is (value_of (helper_call at name (a ∷ [])) w here) (A >>= λ x. w.calls name (all_converted params (x ∷ []))) used st (one_run w here at name type.Int params a st refl helps.1.0)
    ∙ (together A (λ x. w.calls name (all_converted params (x ∷ []))) used st
    ∙ bind_same IsValid A (λ x. w.calls name (all_converted params (x ∷ [])) >>= used) (on_word unary.Invert) st (bind_keeps {G = IsValid} {H = IsValid} (record { keeps = left }) used_keeps) v
    (λ x st vx vs.
    acts_as (w.calls name (x ∷ [])) (on_word unary.Invert x) (on_word unary.Invert x) st (helps.1.0.does (of_one (on_word unary.Invert)) refl refl (x ∷ []) st (vx, tt) vs ∙ ap (λ (m : Run Value). m st) (one_is (on_word unary.Invert) x)) (complement_solid x) refl)))
