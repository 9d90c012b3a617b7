-- A call of the function of strings by another helper function, among more objects.
use Rattle.std.proofs.Common.{◌≡◌, ℕ, zero, suc, ◌+◌, ◌%◌, ◌^◌, ◌<◌, ◌≤◌, List, [], ◌∷◌, ◌++◌, true, false, refl, sym, ap, ◌∙◌, subst, arith, length-append}
use Rattle.c_eval.specs.State.{Value, Word, Null, Point, Letter, Function, Missing, Cell, Unset, Holds, Object, State, Outcome}
use Rattle.c_eval.specs.Run.{◌>>=◌, after, give, undefined, paid, spend, spend_spare, put, objects_now}
use Rattle.c_eval.specs.Memory.{live_cells}
use Rattle.c_eval.specs.BuiltIns.{put_string, put_string_at, cells_from}
use Rattle.c_eval.specs.Text.{Text, function_named}
use Rattle.c_eval.specs.Helpers.{Helpers, helper_runs, known_or, helper_calls}
use Rattle.c_helpers.specs.Functions.{print_string}
use Rattle.c_formats.specs.StringsLaws.{Known, HasString}
use Rattle.c_formats.proofs.StringsCalls.{string_at}
use Rattle.c_failing.specs.Failing.{FailsAs, IsArgument}
use Rattle.c_failing.proofs.Lists.{got_before, got_some}
use Rattle.c_formats.proofs.FormatsFailingFunction.{strings_fail}

-- an argument is one among more objects, and its string is the same
pub argument_among : (os ps : List Object) (v : Value) → IsArgument os v → IsArgument (os ++ ps) v
argument_among os ps (Word n) is = is
argument_among os ps (Point o k) is = omega (arith, is, length-append os ps)
argument_among os ps Null is = tt
argument_among os ps (Letter f i text k) is = tt
argument_among os ps (Function f) is = tt
argument_among os ps Missing is = tt

pub string_among : (os ps : List Object) (v : Value) → IsArgument os v → string_at (os ++ ps) v ≡ string_at os v
string_among os ps (Point o k) is = let x = got_some os o is in ap (λ z. cells_from (live_cells z) k) (got_before os ps o x.0 x.1 ∙ sym x.1)
string_among os ps (Word n) is = refl
string_among os ps Null is = refl
string_among os ps (Letter f i text k) is = refl
string_among os ps (Function f) is = refl
string_among os ps Missing is = refl

-- a string fails alike from moments that show the same
pub fails_elsewhere : {A : Type 0} (cs : List Cell) (left spare words : ℕ) (os : List Object) (st : State) (r : Outcome A) → FailsAs (put_string false cs (record st { left = left; spare = spare; words = words; objects = os })) r → FailsAs (put_string false cs (record st { left = left })) r
unfolding put_string give undefined paid spend put ◌>>=◌ after
fails_elsewhere [] left spare words os st r h = h
fails_elsewhere (Unset ∷ cs) left spare words os st r h = h
fails_elsewhere (Holds Null ∷ cs) left spare words os st r h = h
fails_elsewhere (Holds (Point o i) ∷ cs) left spare words os st r h = h
fails_elsewhere (Holds (Letter f j text i) ∷ cs) left spare words os st r h = h
fails_elsewhere (Holds (Function f) ∷ cs) left spare words os st r h = h
fails_elsewhere (Holds Missing ∷ cs) left spare words os st r h = h
fails_elsewhere (Holds (Word zero) ∷ cs) left spare words os st r h = tt
fails_elsewhere (Holds (Word (suc c)) ∷ cs) zero spare words os st r h = tt
fails_elsewhere (Holds (Word (suc c)) ∷ cs) (suc left) spare words os st r h = fails_elsewhere cs left spare words os (record st { output = st.output ++ suc c % 2 ^ 8 ∷ [] }) r h

module _ (h : Helpers) (t : Text) (input : List ℕ) (some : 1 ≤ h.ration) (known : Known h) (own : HasString h t) where
  paid_for : (deep c : ℕ) (v : Value) (st : State) → st.spare ≡ suc c → st.left < suc deep → 1 ≤ c → st.words + 16 ≤ 1024 → IsArgument st.objects v → FailsAs (put_string false (string_at st.objects v) (record st { spare = c })) (helper_calls (suc (suc deep)) h t input print_string.name (v ∷ []) st)
  unfolding helper_calls known_or paid spend_spare put_string_at objects_now ◌>>=◌ after
  paid_for deep c v st e lt enough small is =
      subst (λ z. FailsAs (put_string false (string_at st.objects v) (record st { spare = c })) (known_or z (v ∷ []) (paid true (helper_runs h t input (helper_calls (suc deep) h t input) (suc deep) print_string.name (function_named t print_string.name) (v ∷ []))) st)) (sym own.0.unknown)
      (subst (λ z. FailsAs (put_string false (string_at st.objects v) (record st { spare = c })) (spend_spare (helper_runs h t input (helper_calls (suc deep) h t input) (suc deep) print_string.name (function_named t print_string.name) (v ∷ [])) z st)) (sym e)
      (strings_fail h t some known own input (suc deep) v (record st { spare = c }) lt enough small is))

  -- where the string is undefined from a moment without these objects, so is the call from one with them
  pub call_fails : (deep spare words : ℕ) (ps : List Object) (v : Value) (st : State) → st.left < suc deep → 2 ≤ spare → words + 16 ≤ 1024 → IsArgument st.objects v
      → FailsAs (put_string false (string_at st.objects v) st) (helper_calls (suc (suc deep)) h t input print_string.name (v ∷ []) (record st { objects = st.objects ++ ps; spare = spare; words = words }))
  call_fails deep zero words ps v st lt enough small is = absurd (omega (arith, enough))
  call_fails deep (suc c) words ps v st lt enough small is =
      fails_elsewhere (string_at st.objects v) st.left c words (st.objects ++ ps) st _
      (subst (λ z. FailsAs (put_string false z (record st { objects = st.objects ++ ps; spare = c; words = words })) (helper_calls (suc (suc deep)) h t input print_string.name (v ∷ []) (record st { objects = st.objects ++ ps; spare = suc c; words = words }))) (string_among st.objects ps v is)
      (paid_for deep c v (record st { objects = st.objects ++ ps; spare = suc c; words = words }) refl lt (omega (arith, enough)) small (argument_among st.objects ps v is)))
