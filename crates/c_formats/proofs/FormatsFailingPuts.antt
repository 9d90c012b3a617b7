-- The function of `puts` fails as `puts` does.
use Rattle.std.proofs.Common.{◌≡◌, inl, inr, ℕ, zero, suc, ◌+◌, ◌-◌, ◌*◌, ◌^◌, ◌<◌, ◌≤◌, List, [], ◌∷◌, ◌++◌, length, Option, Some, true, false, slice_get, refl, sym, ap, subst, arith, append_assoc}
use Rattle.c_syntax.specs.Plain as plain
use Rattle.c_syntax.specs.Plain.{CStmts, stmts}
use Rattle.c_types.specs.Types as type
use Rattle.c_types.specs.Types.{Tags}
use Rattle.c_types.specs.Scope.{Names}
use Rattle.c_eval.specs.State.{Value, Word, Null, Point, Letter, Function, Missing, Object, State, Outcome, Gives, Ended, Going, Undefined, Run}
use Rattle.c_eval.specs.Run.{◌>>=◌, after, give, undefined, unless, paid, spend, put, objects_now}
use Rattle.c_eval.specs.Memory.{ObjectPointer, is_of, read_cell, load}
use Rattle.c_eval.specs.Operators.{used, pointer_to, value_at}
use Rattle.c_eval.specs.BuiltIns.{put_string, put_string_at}
use Rattle.c_eval.specs.Environment.{Environment, behind, in_block}
use Rattle.c_eval.specs.Eval.{World, place_named, value_named, call, Next, does, all_do}
use Rattle.c_eval.specs.Meaning.{argument_objects, body_environment, result_of, runs}
use Rattle.c_eval.specs.Text.{Definition, Text, function_named}
use Rattle.c_eval.specs.Helpers.{Helpers, helper_runs, known_or, helper_calls, use_depth}
use Rattle.c_helpers.specs.Terms.{number, variable}
use Rattle.c_helpers.specs.Functions.{p, unit_name, piece_name, spend_unit, call_of, put_piece, print_string, put_string as puts}
use Rattle.c_helpers.specs.Terms.{give_back}
use Rattle.c_helpers.specs.Meanings.{of_one, piece_put, string_put}
use Rattle.c_products.specs.MovesFound.{KnowsOf, definition}
use Rattle.c_formats.specs.StringsLaws.{string_parameter, Known, HasString, HasPuts}
use Rattle.c_formats.proofs.StringsCalls.{string_at}
use Rattle.c_failing.specs.Failing.{Fails, FailsAs, FailsSince, IsArgument, own_run}
use Rattle.c_failing.proofs.Lists.{got_before, got_last}
use Rattle.c_failing.proofs.Parts.{fails_after, fails_then, fails_charged, fails_within, do_next, do_fails}
use Rattle.c_formats.specs.StringsFailingLaws.{PutsFails}
use Rattle.c_formats.proofs.FormatsFailingTurn.{IsPointer, here, pointing, unit_goes}
use Rattle.c_formats.proofs.FormatsFailingFunction.{point_is, letter_is, null_is}
use Rattle.c_formats.proofs.FormatsFailingCalls.{call_fails}

-- ---- the call in the function of `puts`

abbrev string_call : plain.CStmt
string_call = call_of print_string.name (variable p ∷ [])

module _ (tags : Tags) (names : Names) (defined : List (List ℕ)) (spelt : KnowsOf names type.Void string_parameter print_string) (input : List ℕ) (owner : Option (List ℕ)) (calls : List ℕ → List Value → Run Value) (deep own next literals : ℕ) where
  abbrev w : World
  w = record { input = input; owner = owner; calls = calls; inner = true }

  abbrev place : Environment
  place = here tags names defined own next literals

  call_is : (v : Value) (st : State) → IsPointer v → slice_get st.objects own ≡ Some (pointing v) → does string_call deep w place st ≡ after (calls print_string.name (v ∷ []) st) (λ _. give Next)
  unfolding ◌>>=◌ after give unless objects_now read_cell load used pointer_to value_at place_named value_named call
  call_is v st k o = rw (spelt.1, o, k.kind, k.uses, k.same) refl

  other_call : (v : Value) (st : State) → slice_get st.objects own ≡ Some (pointing v) → is_of ObjectPointer v ≡ false → Fails st.taken st.output (does string_call deep w place st)
  unfolding ◌>>=◌ after give undefined unless objects_now read_cell load used pointer_to value_at place_named value_named call
  other_call v st o kind = rw (spelt.1, o, kind) (refl, refl)

  pointer_call : (taken : ℕ) (output : List ℕ) (v : Value) (st : State) → IsPointer v → slice_get st.objects own ≡ Some (pointing v) → Fails taken output (calls print_string.name (v ∷ []) st) → Fails taken output (does string_call deep w place st)
  pointer_call taken output v st k o e = subst (λ z. Fails taken output z) (sym (call_is v st k o)) (fails_after taken output (calls print_string.name (v ∷ []) st) _ e)

-- ---- the function

module _ (h : Helpers) (t : Text) (input : List ℕ) (enough : 2 ^ 9 ≤ h.ration) (known : Known h) (strings : HasString h t) (own : HasPuts h t) where
  abbrev name : List ℕ
  name = puts.name

  module _ (deep : ℕ) where
    abbrev calls : List ℕ → List Value → Run Value
    calls = helper_calls (suc (suc deep)) h t input

    unit_is : calls unit_name [] ≡ paid false (give Missing)
    unfolding helper_calls known_or
    unit_is = ap (λ z. known_or z [] (paid true (helper_runs h t input (helper_calls (suc deep) h t input) (suc deep) unit_name (function_named t unit_name) []))) (known unit_name)

    piece_is : (c : ℕ) → calls piece_name (Word c ∷ []) ≡ piece_put h.ration (Word c)
    unfolding helper_calls known_or of_one
    piece_is c = ap (λ z. known_or z (Word c ∷ []) (paid true (helper_runs h t input (helper_calls (suc deep) h t input) (suc deep) piece_name (function_named t piece_name) (Word c ∷ [])))) (known piece_name)

    abbrev w1 : World
    w1 = record { input = input; owner = Some name; calls = calls; inner = true }

    abbrev f : Definition
    f = definition type.Int string_parameter puts own.0.tags own.0.names own.0.defined

    abbrev body : Value → State → Outcome Value
    body v st = helper_runs h t input calls (suc (suc deep)) name (function_named t name) (v ∷ []) st

    abbrev with_own : Value → List Object → List Object
    with_own v os = (os ++ pointing v ∷ []) ++ []

    abbrev at : Value → List Object → ℕ → Environment
    at v os literals = here own.0.tags own.0.names own.0.defined (length os) (length (os ++ pointing v ∷ [])) literals

    abbrev rest : CStmts
    rest = stmts (put_piece (number 10) ∷ give_back (number 0) ∷ [])

    owned : (v : Value) (os : List Object) → slice_get (with_own v os) (length os) ≡ Some (pointing v)
    owned v os = got_before (os ++ pointing v ∷ []) [] (length os) (pointing v) (got_last os (pointing v))

    -- behind the unit of the call
    abbrev begun : (n words : ℕ) → Value → State → State
    begun n words v st = record st { left = n; spare = h.ration; words = words; objects = with_own v st.objects }

    abbrev literals_then : Value → List Object → ℕ
    literals_then v os = (behind spend_unit (at v os 0)).literals_before

    -- where the call fails, so does the function
    from_call : (taken n : ℕ) (output : List ℕ) (v : Value) (st : State) → Fails taken output (does string_call (suc (suc deep)) w1 (at v st.objects (literals_then v st.objects)) (begun n (0 + h.charge name) v st)) → Fails taken output (body v (record st { left = suc n; spare = h.ration; words = 0 }))
    unfolding helper_runs runs
    from_call taken n output v st e =
        subst (λ z. Fails taken output (helper_runs h t input calls (suc (suc deep)) name z (v ∷ []) (record st { left = suc n; spare = h.ration; words = 0 }))) (sym own.0.found)
        (fails_charged taken output (h.charge name) (runs f [] (suc (suc deep)) w1 (v ∷ [])) (record st { left = suc n; spare = h.ration; words = 0 }) (omega (arith, own.0.charge))
        (fails_then taken output _ (result_of type.Int) (record st { left = suc n; spare = h.ration; words = 0 + h.charge name })
        (fails_within taken output (argument_objects f.params (v ∷ [])) (λ n. does f.body (suc (suc deep)) w1 (body_environment f [] (v ∷ []) n)) (record st { left = suc n; spare = h.ration; words = 0 + h.charge name })
        (fails_within taken output [] (λ j. all_do (stmts (spend_unit ∷ string_call ∷ put_piece (number 10) ∷ give_back (number 0) ∷ [])) (suc (suc deep)) w1 (in_block j (body_environment f [] (v ∷ []) (length st.objects)))) (record st { left = suc n; spare = h.ration; words = 0 + h.charge name; objects = st.objects ++ pointing v ∷ [] })
        (subst (λ z. Fails taken output z) (sym (do_next spend_unit (plain.MoreStmt string_call rest) (suc (suc deep)) w1 (at v st.objects 0) _ _
        (unit_goes own.0.tags own.0.names own.0.defined own.1 own.2 input (Some name) calls h.ration unit_is piece_is (suc (suc deep)) (length st.objects) (length (st.objects ++ pointing v ∷ [])) 0 n (record (begun n (0 + h.charge name) v st) { spare = h.ration }))))
        (do_fails taken output string_call rest (suc (suc deep)) w1 (at v st.objects (literals_then v st.objects)) (begun n (0 + h.charge name) v st) e))))))

    -- the string's characters are shown
    abbrev Fail : ℕ → Value → State → Type 0
    Fail n v st = FailsAs (put_string false (string_at st.objects v) (record st { left = n })) (body v (record st { left = suc n; spare = h.ration; words = 0 }))

    by_string : (n : ℕ) (v : Value) (st : State) (r : Outcome (Unit {0})) → IsPointer v → FailsAs r (calls print_string.name (v ∷ []) (begun n (0 + h.charge name) v st)) → FailsAs r (body v (record st { left = suc n; spare = h.ration; words = 0 }))
    by_string n v st (Undefined act st1) k e =
        from_call st1.taken n st1.output v st (pointer_call own.0.tags own.0.names own.0.defined own.3 input (Some name) calls (suc (suc deep)) (length st.objects) (length (st.objects ++ pointing v ∷ [])) (literals_then v st.objects) st1.taken st1.output v (begun n (0 + h.charge name) v st) k (owned v st.objects) e)
    by_string n v st (Gives u st1) k e = tt
    by_string n v st (Ended st1) k e = tt
    by_string n v st (Going st1) k e = tt

    of_pointer : (n : ℕ) (v : Value) (st : State) → n < suc deep → IsPointer v → IsArgument st.objects v → Fail n v st
    of_pointer n v st lt k is =
        by_string n v st (put_string false (string_at st.objects v) (record st { left = n })) k
        (subst (λ os. FailsAs (put_string false (string_at st.objects v) (record st { left = n })) (calls print_string.name (v ∷ []) (record st { left = n; objects = os; spare = h.ration; words = 0 + h.charge name }))) (sym (append_assoc st.objects (pointing v ∷ []) []))
        (call_fails h t input (omega (arith, enough)) known strings deep h.ration (0 + h.charge name) (pointing v ∷ []) v (record st { left = n }) lt (omega (arith, enough)) (omega (arith, own.0.charge)) is))

    of_other : (n : ℕ) (v : Value) (st : State) → is_of ObjectPointer v ≡ false → Fails st.taken st.output (body v (record st { left = suc n; spare = h.ration; words = 0 }))
    of_other n v st kind = from_call st.taken n st.output v st (other_call own.0.tags own.0.names own.0.defined own.3 input (Some name) calls (suc (suc deep)) (length st.objects) (length (st.objects ++ pointing v ∷ [])) (literals_then v st.objects) v (begun n (0 + h.charge name) v st) (owned v st.objects) kind)

    of_value : (n : ℕ) (v : Value) (st : State) → n < suc deep → IsArgument st.objects v → Fail n v st
    unfolding put_string undefined
    of_value n (Point o k) st lt is = of_pointer n (Point o k) st lt (point_is o k) is
    of_value n (Letter a j text k) st lt is = of_pointer n (Letter a j text k) st lt (letter_is a j text k) is
    of_value n Null st lt is = of_pointer n Null st lt null_is is
    of_value n (Word c) st lt is = of_other n (Word c) st refl
    of_value n (Function g) st lt is = of_other n (Function g) st refl
    of_value n Missing st lt is = of_other n Missing st refl

  -- ---- the use

  -- the depth of a use, two calls apart
  abbrev inner : ℕ → ℕ
  inner left = left * (h.ration + 1) + h.ration - 1

  depth : (left : ℕ) → use_depth h.ration left ≡ suc (suc (inner left))
  depth left = omega (arith, enough)

  lower : (n : ℕ) → n < suc (inner (suc n))
  lower n = let le : suc n ≤ suc n * (h.ration + 1) = many (suc n) in omega (arith, le, enough)
    where
      many : (m : ℕ) → m ≤ m * (h.ration + 1)
      many m = omega arith

  -- behind the string `puts` is never undefined
  since : (st : State) (r : Outcome (Unit {0})) (q : Outcome Value) → FailsAs r q → FailsSince st (after r (λ _. put 10 >>= λ _. give (Word 0))) q
  unfolding after put give ◌>>=◌
  since st (Undefined act st1) q e = inr e
  since st (Gives u st1) q e = tt
  since st (Ended st1) q e = tt
  since st (Going st1) q e = tt

  on_fuel : (v : Value) (left : ℕ) (st : State) → IsArgument st.objects v → FailsSince (record st { left = left }) (of_one string_put (v ∷ []) (record st { left = left })) (own_run h t input name (v ∷ []) (record st { left = left }))
  unfolding of_one string_put paid spend put_string_at objects_now ◌>>=◌ after
  on_fuel v zero st is = tt
  on_fuel v (suc n) st is =
      subst (λ d. FailsSince (record st { left = suc n }) (after (put_string false (string_at st.objects v) (record st { left = n })) (λ _. put 10 >>= λ _. give (Word 0))) (helper_runs h t input (helper_calls d h t input) d name (function_named t name) (v ∷ []) (record st { left = suc n; spare = h.ration; words = 0 })))
      (sym (depth (suc n)))
      (since (record st { left = suc n }) (put_string false (string_at st.objects v) (record st { left = n })) _ (of_value (inner (suc n)) n v st (lower n) is))

pub puts_fails : PutsFails
unfolding of_one undefined
puts_fails h t enough known strings own input [] st are = inl (refl, refl)
puts_fails h t enough known strings own input (v ∷ []) st are = on_fuel h t input enough known strings own v st.left st are.0
puts_fails h t enough known strings own input (v ∷ u ∷ vs) st are = inl (refl, refl)
