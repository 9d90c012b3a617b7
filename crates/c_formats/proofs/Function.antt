-- The function of strings, in a text that has it.
use Rattle.std.proofs.Common.{◌≡◌, ℕ, suc, ◌+◌, ◌%◌, ◌^◌, ◌<◌, List, [], ◌∷◌, ◌++◌, length, Option, Some, None, true, false, slice_get, drop, refl, sym, ap, ◌∙◌, arith, length-append}
use Rattle.std.specs.Prelude.{pos, if◌then◌else◌}
use Rattle.std.specs.Option.{option_map}
use Rattle.std.proofs.lemmas.List.{length-map}
use Rattle.c_types.specs.Types as type
use Rattle.c_types.specs.Types.{Tags}
use Rattle.c_types.specs.Scope.{Names}
use Rattle.c_eval.specs.State.{Value, Word, Point, Letter, Missing, Cell, Holds, Object, State, Outcome, Gives, Ended, Going, Undefined}
use Rattle.c_eval.specs.Memory.{letters, live_cells, cell_in, cell_at, is_within}
use Rattle.c_eval.specs.BuiltIns.{put_string}
use Rattle.c_eval.specs.Eval.{Flow, Next}
use Rattle.c_helpers.specs.Functions.{print_string}
use Rattle.c_apart.proofs.Apart.{Out, Done, Paused, p_after, p_bind, p_give, p_go_on, p_within, p_enter, p_leave, p_loop, p_result, p_function}
use Rattle.c_products.specs.MovesFound.{definition}
use Rattle.c_formats.specs.StringsLaws.{string_parameter, KnowsUnit, KnowsPiece}
use Rattle.c_formats.proofs.Turn.{pointing, calls, test, body, point_test, point_turn, point_pause, letter_test, letter_turn, letter_pause}
use Rattle.c_formats.proofs.Loop.{Ends, spare_behind, loop_runs}

-- how the function ends, by the end of its loop
abbrev pub Ran : ℕ → Out Value → Outcome (Unit {0}) → Type 0
Ran spare out (Gives u st) = (own : List Object) × (out ≡ Done Missing (record st { spare = spare }) own)
Ran spare out (Going st) = (own : List Object) × (out ≡ Paused (record st { spare = spare }) own)
Ran spare out (Ended st) = Unit {0}
Ran spare out (Undefined act st) = Unit {0}

module _ (tags : Tags) (names : Names) (defined : List (List ℕ)) (deep ration : ℕ) (unit : KnowsUnit names) (piece : KnowsPiece names) where
  abbrev pub function : Value → State → Out Value
  function v st = p_function (definition type.Void string_parameter print_string tags names defined) (suc deep) (calls tags names defined deep ration unit piece) (v ∷ []) st []

  abbrev loop_of : Value → State → Out Flow
  loop_of v st = p_loop (suc deep) (test tags names defined deep ration unit piece) (body tags names defined deep ration unit piece) st (pointing true v)

  done : (v w : Value) (st st1 : State) → loop_of v st ≡ Done Next st1 (pointing true w) → function v st ≡ Done Missing st1 (pointing false w)
  unfolding p_after p_bind p_give p_go_on p_within p_enter p_leave p_result p_function
  done v w st st1 e = rw e refl

  paused : (v w : Value) (st st1 : State) → loop_of v st ≡ Paused st1 (pointing true w) → function v st ≡ Paused st1 (pointing true w)
  unfolding p_after p_bind p_go_on p_within p_enter p_function
  paused v w st st1 e = rw e refl

  from_loop : (v : Value) (spare : ℕ) (st : State) (r : Outcome (Unit {0})) → Ends spare (loop_of v st) r → Ran spare (function v st) r
  from_loop v spare st (Gives u st1) e = (pointing false e.0, done v e.0 st (record st1 { spare = spare }) e.1)
  from_loop v spare st (Going st1) e = (pointing true e.0, paused v e.0 st (record st1 { spare = spare }) e.1)
  from_loop v spare st (Ended st1) e = tt
  from_loop v spare st (Undefined act st1) e = tt

  one_on : (k : ℕ) → k + 1 ≡ suc k
  one_on k = omega arith

  -- a pointer into an object that lives
  pub point_ran : (o k s : ℕ) (x : Object) (st : State) → 0 < ration → slice_get st.objects o ≡ Some x → x.live ≡ true → st.left < suc deep → 0 < s
      → Ran (spare_behind ration st.left s (drop k x.cells)) (function (Point o k) (record st { spare = s })) (put_string false (drop k x.cells) st)
  point_ran o k s x st some got live lt enough =
      from_loop (Point o k) (spare_behind ration st.left s (drop k x.cells)) (record st { spare = s }) (put_string false (drop k x.cells) st)
      (loop_runs ration some (test tags names defined deep ration unit piece) (body tags names defined deep ration unit piece) (λ k. Point o k) x.cells (λ st. slice_get st.objects o ≡ Some x)
      (λ st left spare output has. has)
      (λ k w b st has cell e. point_test tags names defined deep ration unit piece o k w b st (cell_is st has k (Holds (Word w)) cell) e)
      (λ k w n s st has cell inside. point_turn tags names defined deep ration unit piece o k w n s st (cell_is st has k (Holds (Word w)) cell) (ap (λ z. is_within (pos (k + 1)) (option_map (λ y. length y.cells) z)) has ∙ inside)
      ∙ ap (λ z. Done Next (record st { left = n; spare = ration; output = st.output ++ w % 2 ^ 8 ∷ [] }) (pointing true (Point o z))) (one_on k))
      (λ k s st. point_pause tags names defined deep ration unit piece o k s st)
      (drop k x.cells) k (suc deep) st.left s st refl got lt enough)
    where
      cell_is : (st : State) → slice_get st.objects o ≡ Some x → (k : ℕ) (c : Cell) → slice_get x.cells k ≡ Some c → cell_at st.objects (Point o k) ≡ Some c
      cell_is st has k c e = ap (λ z. cell_in (live_cells z) k) has ∙ (ap (λ b. cell_in (if b then Some x.cells else None) k) live ∙ e)

  -- a string literal
  pub letter_ran : (f : Option (List ℕ)) (j : ℕ) (text : List ℕ) (k s : ℕ) (st : State) → 0 < ration → st.left < suc deep → 0 < s
      → Ran (spare_behind ration st.left s (drop k (letters text))) (function (Letter f j text k) (record st { spare = s })) (put_string false (drop k (letters text)) st)
  letter_ran f j text k s st some lt enough =
      from_loop (Letter f j text k) (spare_behind ration st.left s (drop k (letters text))) (record st { spare = s }) (put_string false (drop k (letters text)) st)
      (loop_runs ration some (test tags names defined deep ration unit piece) (body tags names defined deep ration unit piece) (λ k. Letter f j text k) (letters text) (λ st. Unit {0})
      (λ st left spare output has. tt)
      (λ k w b st has cell e. letter_test tags names defined deep ration unit piece f j text k w b st cell e)
      (λ k w n s st has cell inside. letter_turn tags names defined deep ration unit piece f j text k w n s st cell (ap (λ z. is_within (pos (k + 1)) (Some z)) (sym (cells_of text)) ∙ inside)
      ∙ ap (λ z. Done Next (record st { left = n; spare = ration; output = st.output ++ w % 2 ^ 8 ∷ [] }) (pointing true (Letter f j text z))) (one_on k))
      (λ k s st. letter_pause tags names defined deep ration unit piece f j text k s st)
      (drop k (letters text)) k (suc deep) st.left s st refl tt lt enough)
    where
      cells_of : (text : List ℕ) → length (letters text) ≡ length text + 1
      cells_of text = length-map (text ++ 0 ∷ []) (λ c. Holds (Word c)) ∙ length-append text (0 ∷ [])
