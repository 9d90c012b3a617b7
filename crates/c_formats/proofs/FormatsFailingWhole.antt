-- The function of a format fails as `printf` does.
use Rattle.std.proofs.Common.{◌≡◌, inr, ℕ, zero, suc, ◌+◌, ◌-◌, ◌*◌, ◌^◌, ◌<◌, ◌≤◌, List, [], ◌∷◌, ◌++◌, length, Some, Bool, true, false, refl, sym, subst, arith, append-nil}
use Rattle.std.specs.Prelude.{◌==◌, if◌then◌else◌, codes}
use Rattle.c_syntax.specs.Plain.{MoreStmt, stmts}
use Rattle.c_types.specs.Types as type
use Rattle.c_types.specs.Scope.{Scope}
use Rattle.c_types.specs.Operands.{conversions_of}
use Rattle.c_eval.specs.State.{Value, Missing, State, Outcome, Gives, Ended, Going, Undefined}
use Rattle.c_eval.specs.Run.{◌>>=◌, after, give, paid, spend}
use Rattle.c_eval.specs.Memory.{within}
use Rattle.c_eval.specs.BuiltIns.{put_format, printf}
use Rattle.c_eval.specs.Environment.{block_objects, in_block}
use Rattle.c_eval.specs.Eval.{Flow, does, all_do}
use Rattle.c_eval.specs.Meaning.{argument_objects, body_environment, result_of, runs}
use Rattle.c_eval.specs.Text.{Definition, Text, function_named}
use Rattle.c_eval.specs.Helpers.{Helpers, helper_runs, helper_calls, use_depth}
use Rattle.c_helpers.specs.Terms.{number, variable}
use Rattle.c_helpers.specs.Functions.{spend_unit, refill, call_of, put_piece, argument_name, pieces, format_name, print_format}
use Rattle.c_helpers.specs.Meanings.{format_put}
use Rattle.c_products.specs.MovesFound.{definition}
use Rattle.c_formats.specs.StringsLaws.{Known}
use Rattle.c_formats.specs.Laws.{format_parameters, HasFormat}
use Rattle.c_failing.specs.Failing.{Fails, FailsAs, FailsSince, AreArguments, own_run}
use Rattle.c_failing.proofs.Parts.{fails_then, fails_charged, fails_within}
use Rattle.c_formats.specs.FormatsFailingLaws.{FormatsFail}
use Rattle.c_formats.proofs.FormatsFailingSteps.{unit_goes}
use Rattle.c_formats.proofs.FormatsFailingPieces.{outer, objects, arguments, calls, in_format, unit_known, unit_is, part, in_use, past_it, next_piece, pieces_fail}

-- no piece declares an object
none_declared : (percent : Bool) (rest : List ℕ) (i : ℕ) (s : Scope) → block_objects s (stmts (pieces percent rest i)) ≡ []
none_declared percent [] i s = refl
none_declared false (c ∷ rest) i s = go (c == 37) (none_declared true rest i s) (none_declared false rest i s)
  where
    go : (b : Bool) → block_objects s (stmts (pieces true rest i)) ≡ [] → block_objects s (stmts (pieces false rest i)) ≡ [] → block_objects s (stmts (if b then pieces true rest i else put_piece (number c) ∷ pieces false rest i)) ≡ []
    go true e f = e
    go false e f = f
none_declared true (c ∷ rest) i s = go (c == 37) (c == 99) (none_declared false rest i s) (none_declared false rest (suc i) s)
  where
    go : (b q : Bool) → block_objects s (stmts (pieces false rest i)) ≡ [] → block_objects s (stmts (pieces false rest (suc i))) ≡ []
        → block_objects s (stmts (if b then put_piece (number c) ∷ pieces false rest i else (if q then put_piece (variable (argument_name i)) ∷ [] else refill ∷ call_of (codes "%" ++ c ∷ []) (variable (argument_name i) ∷ []) ∷ []) ++ pieces false rest (suc i))) ≡ []
    go true q e f = e
    go false true e f = f
    go false false e f = f

module _ (h : Helpers) (t : Text) (input : List ℕ) (enough : 2 ^ 9 ≤ h.ration) (known : Known h) (format letters : List ℕ) (told : conversions_of format ≡ Some letters) (few : length letters < 2 ^ 24) (own : HasFormat h t format letters) (vs : List Value) (st : State) (are : AreArguments st.objects vs) where
  abbrev name : List ℕ
  name = format_name format

  abbrev f : Definition
  f = definition type.Void (format_parameters letters) (print_format format) own.own.tags own.own.names own.own.defined

  -- a use calls so deep, behind the unit of the call
  module _ (deep n : ℕ) (lower : n < suc deep) (deeper : 256 < deep) where
    abbrev words : ℕ
    words = 0 + h.charge name

    small : words ≤ 16
    small = omega (arith, own.own.charge)

    abbrev pieces_at : ℕ → State → Outcome Flow
    pieces_at l now = part h t input enough known format letters few own vs st.objects are deep n words small lower deeper (stmts (pieces false format 0)) l now

    abbrev begun : State
    begun = in_use h t input enough known format letters few own vs st.objects are deep n words small lower deeper h.ration (record st { left = n })

    abbrev literals : ℕ
    literals = past_it h t input enough known format letters few own vs st.objects are deep n words small lower deeper spend_unit 0

    abbrev body : Outcome Value
    body = helper_runs h t input (helper_calls (suc (suc deep)) h t input) (suc (suc deep)) name (function_named t name) vs (record st { left = suc n; spare = h.ration; words = 0 })

    abbrev before : State
    before = record st { left = suc n; spare = h.ration; words = words; objects = st.objects ++ arguments h t input enough known format letters few own vs st.objects are deep }

    -- where the pieces fail, so does the function
    from_pieces : (taken : ℕ) (output : List ℕ) → Fails taken output (pieces_at literals begun) → Fails taken output body
    unfolding helper_runs runs
    from_pieces taken output e =
        subst (λ z. Fails taken output (helper_runs h t input (helper_calls (suc (suc deep)) h t input) (suc (suc deep)) name z vs (record st { left = suc n; spare = h.ration; words = 0 }))) (sym own.own.found)
        (fails_charged taken output (h.charge name) (runs f [] (suc (suc deep)) (in_format h t input enough known format letters few own vs st.objects are deep) vs) (record st { left = suc n; spare = h.ration; words = 0 }) (omega (arith, own.own.charge))
        (fails_then taken output _ (result_of type.Void) (record st { left = suc n; spare = h.ration; words = words })
        (fails_within taken output (argument_objects f.params vs) (λ k. does f.body (suc (suc deep)) (in_format h t input enough known format letters few own vs st.objects are deep) (body_environment f [] vs k)) (record st { left = suc n; spare = h.ration; words = words })
        (subst (λ z. Fails taken output (within z (λ j. all_do (MoreStmt spend_unit (stmts (pieces false format 0))) (suc (suc deep)) (in_format h t input enough known format letters few own vs st.objects are deep) (in_block j (body_environment f [] vs (length st.objects)))) before))
        (sym (none_declared false format 0 _))
        (fails_within taken output [] (λ j. all_do (MoreStmt spend_unit (stmts (pieces false format 0))) (suc (suc deep)) (in_format h t input enough known format letters few own vs st.objects are deep) (in_block j (body_environment f [] vs (length st.objects)))) before
        (subst (λ z. Fails taken output (part h t input enough known format letters few own vs st.objects are deep n words small lower deeper (MoreStmt spend_unit (stmts (pieces false format 0))) 0 (record before { objects = z }))) (sym (append-nil before.objects))
        (subst (λ z. Fails taken output z)
        (sym (next_piece h t input enough known format letters few own vs st.objects are deep n words small lower deeper spend_unit (stmts (pieces false format 0)) 0 before begun
        (unit_goes own.own.tags (outer h t input enough known format letters few own vs st.objects are deep) own.own.defined (objects h t input enough known format letters few own vs st.objects are deep) (length before.objects) input (Some name) (calls h t input enough known format letters few own vs st.objects are deep) (suc (suc deep))
        (unit_known h t input enough known format letters few own vs st.objects are deep) (unit_is h t input enough known format letters few own vs st.objects are deep) 0 n before)))
        e)))))))

    by_end : (r : Outcome (Unit {0})) → FailsAs r (pieces_at literals begun) → FailsAs r body
    by_end (Undefined act st1) e = from_pieces st1.taken st1.output e
    by_end (Gives u st1) e = tt
    by_end (Ended st1) e = tt
    by_end (Going st1) e = tt

    format_fails : FailsAs (put_format false false format vs (record st { left = n })) body
    format_fails =
        by_end (put_format false false format vs (record st { left = n }))
        (pieces_fail h t input enough known format letters few own vs st.objects are deep n words small lower deeper false format letters 0 told refl literals h.ration (record st { left = n }) refl (omega arith))

  -- ---- the use

  -- the depth of a use, two calls apart
  abbrev inner : ℕ → ℕ
  inner left = left * (h.ration + 1) + h.ration - 1

  depth : (left : ℕ) → use_depth h.ration left ≡ suc (suc (inner left))
  depth left = omega (arith, enough)

  lower_than : (n : ℕ) → n < suc (inner (suc n))
  lower_than n = let le : suc n ≤ suc n * (h.ration + 1) = many (suc n) in omega (arith, le, enough)
    where
      many : (m : ℕ) → m ≤ m * (h.ration + 1)
      many m = omega arith

  deeper_than : (left : ℕ) → 256 < inner left
  deeper_than left = let le : 0 ≤ left * (h.ration + 1) = omega arith in omega (arith, le, enough)

  since : (first : State) (r : Outcome (Unit {0})) (q : Outcome Value) → FailsAs r q → FailsSince first (after r (λ _. give Missing)) q
  unfolding after give
  since first (Undefined act st1) q e = inr e
  since first (Gives u st1) q e = tt
  since first (Ended st1) q e = tt
  since first (Going st1) q e = tt

  on_fuel : (left : ℕ) → FailsSince (record st { left = left }) (format_put format vs (record st { left = left })) (own_run h t input name vs (record st { left = left }))
  unfolding format_put paid spend printf ◌>>=◌
  on_fuel zero = tt
  on_fuel (suc n) =
      subst (λ d. FailsSince (record st { left = suc n }) (after (put_format false false format vs (record st { left = n })) (λ _. give Missing)) (helper_runs h t input (helper_calls d h t input) d name (function_named t name) vs (record st { left = suc n; spare = h.ration; words = 0 }))) (sym (depth (suc n)))
      (since (record st { left = suc n }) (put_format false false format vs (record st { left = n })) _ (format_fails (inner (suc n)) n (lower_than n) (deeper_than (suc n))))

pub formats_fail : FormatsFail
formats_fail h t format letters enough known told few own input vs st are = on_fuel h t input enough known format letters told few own vs st are st.left
