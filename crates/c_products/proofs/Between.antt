-- A use of the function of differences is the difference.
use Rattle.std.proofs.Common.{◌≡◌, ℕ, suc, ◌^◌, ◌<◌, ◌≤◌, List, [], ◌∷◌, Option, Bool, true, false, refl, ap, ap₂, ◌∙◌, arith}
use Rattle.std.specs.Prelude.{ℤ, pos, ◌-ℤ◌, int_div, int_rem, unsigned_abs, ◌&&◌, ◌==◌}
use Rattle.std.proofs.lemmas.Bool.{lt-ltb, and_parts}
use Rattle.word24.specs.Word.{signed_of}
use Rattle.c_types.specs.Types as type
use Rattle.c_types.specs.Constants.{wrapped}
use Rattle.c_eval.specs.State.{Value, Word, Null, Point, Letter, Function, Missing, State, Act, OtherKind, PointerOrder, Gives, Undefined}
use Rattle.c_eval.specs.Run.{unless, give, undefined, ◌>>=◌, after}
use Rattle.c_eval.specs.Memory.{serves_as_pointer, same_owner, same_object, offset_of, pointer_difference as difference_of}
use Rattle.c_eval.specs.Operators.{of_word}
use Rattle.c_eval.specs.Text.{Text}
use Rattle.c_eval.specs.Helpers.{Helpers, helper_calls, use_depth, helps_to}
use Rattle.c_helpers.specs.Functions.{unsigned_quotient, int_quotient, pointer_difference}
use Rattle.c_helpers.specs.Meanings.{Action, of_three, elements_between}
use Rattle.c_apart.proofs.Apart.{Part}
use Rattle.c_apart.proofs.Uses.{use_of, use_gives, use_undefined}
use Rattle.c_products.specs.Found.{Stands, Knows}
use Rattle.c_products.proofs.Arithmetic.{low_is}
use Rattle.c_products.proofs.Nested.{OnWords, p_on_words, within_depth, on_words_nested}
use Rattle.c_products.proofs.Computed.{are_divisible}
use Rattle.c_products.proofs.IntQuotient.{p_one, one_nested}
use Rattle.c_products.proofs.IntRemainder.{int_quotient_word}
use Rattle.c_products.proofs.Whole.{int_units, int_words}
use Rattle.c_valid.specs.Valid.{IsValid}
use Rattle.c_products.specs.MovesFound.{Has, definition, difference_parameters}
use Rattle.c_products.proofs.Cells.{back}
use Rattle.c_products.proofs.Uses.{words_are}
use Rattle.c_products.proofs.Using.{use_start, use_done}
use Rattle.c_products.proofs.Differences.{cells_between, points_run, letters_run}

-- ---- numbers

by_one : (z : ℤ) → int_div z (pos 1) ≡ z
by_one z = grind arith

word_below : (z : ℤ) → wrapped z < 2 ^ 24
word_below z = grind arith

-- the quotient of what lies between is that of the numbers
quotient_is : (i j words : ℕ) → i < 2 ^ 23 → j < 2 ^ 23 → words < 2 ^ 23 → int_quotient_word (cells_between i j) words ≡ wrapped (int_div (pos i -ℤ pos j) (pos words))
quotient_is i j words a b c =
    ap (λ z. wrapped (int_div (signed_of (wrapped z)) (signed_of words))) (by_one (pos i -ℤ pos j))
    ∙ (ap (λ z. wrapped (int_div z (signed_of words))) (back i j a b) ∙ ap (λ z. wrapped (int_div (pos i -ℤ pos j) z)) (low_is words c))

module _ (h : Helpers) (t : Text) (input : List ℕ) (enough : 2 ^ 9 ≤ h.ration) (s : Stands h t type.Unsigned unsigned_quotient) (d : Stands h t type.Int int_quotient) (kq : Knows d.names type.Unsigned unsigned_quotient)
    (own : Has h t type.Int difference_parameters pointer_difference) (kd : Knows own.names type.Int int_quotient) where
  abbrev name : List ℕ
  name = pointer_difference.name

  abbrev units : ℕ → ℕ → ℕ
  units x y = int_units h t input y

  words_of_two : OnWords h t input int_quotient.name are_divisible units 25 32 int_quotient_word
  words_of_two = int_words h t input s d kq

  abbrev part : ℕ → List ℕ → List Value → Part Value
  part deep = p_one int_quotient.name (p_on_words (within_depth are_divisible units deep) units 32 int_quotient_word)

  deep_enough : (st : State) (x y : ℕ) → suc (units x y) < use_depth h.ration st.left
  deep_enough st x y = let le : units x y ≤ 25 = words_of_two.bounded x y in let more : h.ration < use_depth h.ration st.left = omega arith in omega (arith, le, more, enough)

  good : (st : State) (i j words : ℕ) → 0 < words → words < 2 ^ 23 → within_depth are_divisible units (use_depth h.ration st.left) (cells_between i j) words ≡ true
  good st i j words some few =
      ap₂ (λ a b. a && b) (ap₂ (λ a b. a && b) (words_are (cells_between i j) words (word_below _) (omega (arith, few))) (lt-ltb 0 words some)) (lt-ltb (suc (units (cells_between i j) words)) (use_depth h.ration st.left) (deep_enough st (cells_between i j) words))

  points_use : (o i u j words : ℕ) (st : State) → 0 < words → words < 2 ^ 23 → (o == u) ≡ true → use_of h t input name (Point o i ∷ Point u j ∷ Word words ∷ []) st ≡ Gives (Word (int_quotient_word (cells_between i j) words)) st
  points_use o i u j words st some few same =
      let le : units (cells_between i j) words ≤ 25 = words_of_two.bounded (cells_between i j) words in
      use_done h t input name (definition type.Int difference_parameters pointer_difference own.tags own.names own.defined) (Point o i ∷ Point u j ∷ Word words ∷ []) st _ _ _ (part (use_depth h.ration st.left)) own.found own.charge
      (λ n g us. one_nested n int_quotient.name _ (helper_calls (use_depth h.ration st.left) h t input) (on_words_nested h t input int_quotient.name are_divisible units 25 32 int_quotient_word words_of_two d.unknown (use_depth h.ration st.left) n) g us)
      (points_run own.tags own.names own.defined (use_depth h.ration st.left) o i u j words 32 (within_depth are_divisible units (use_depth h.ration st.left)) units int_quotient_word (use_start h name st) kd.0 kd.1 same (good st i j words some few) (omega (arith, le, enough)) (omega (arith, own.charge)))

  letters_use : (a : Option (List ℕ)) (m : ℕ) (text : List ℕ) (i : ℕ) (b : Option (List ℕ)) (n : ℕ) (other : List ℕ) (j words : ℕ) (st : State) → 0 < words → words < 2 ^ 23 → (same_owner a b && m == n) ≡ true →
      use_of h t input name (Letter a m text i ∷ Letter b n other j ∷ Word words ∷ []) st ≡ Gives (Word (int_quotient_word (cells_between i j) words)) st
  letters_use a m text i b n other j words st some few same =
      let le : units (cells_between i j) words ≤ 25 = words_of_two.bounded (cells_between i j) words in
      use_done h t input name (definition type.Int difference_parameters pointer_difference own.tags own.names own.defined) (Letter a m text i ∷ Letter b n other j ∷ Word words ∷ []) st _ _ _ (part (use_depth h.ration st.left)) own.found own.charge
      (λ n g us. one_nested n int_quotient.name _ (helper_calls (use_depth h.ration st.left) h t input) (on_words_nested h t input int_quotient.name are_divisible units 25 32 int_quotient_word words_of_two d.unknown (use_depth h.ration st.left) n) g us)
      (letters_run own.tags own.names own.defined (use_depth h.ration st.left) a m text i b n other j words 32 (within_depth are_divisible units (use_depth h.ration st.left)) units int_quotient_word (use_start h name st) kd.0 kd.1 same (good st i j words some few) (omega (arith, le, enough)) (omega (arith, own.charge)))

  abbrev action : Action
  action = of_three elements_between

  undefined_use : (p q : Value) (words : ℕ) (st : State) (act : Act) → action (p ∷ q ∷ Word words ∷ []) st ≡ Undefined act st → helps_to h t input name action (p ∷ q ∷ Word words ∷ []) st ≡ action (p ∷ q ∷ Word words ∷ []) st
  undefined_use p q words st act e = use_undefined h t input name (p ∷ q ∷ Word words ∷ []) action st st act e

  -- pointers of which a test fails
  apart_kinds : (p q : Value) (words : ℕ) (st : State) → (serves_as_pointer p && serves_as_pointer q) ≡ false → action (p ∷ q ∷ Word words ∷ []) st ≡ Undefined OtherKind st
  unfolding of_three elements_between of_word difference_of unless undefined ◌>>=◌ after
  apart_kinds p q words st e = rw e refl

  apart_objects : (p q : Value) (words : ℕ) (st : State) → (serves_as_pointer p && serves_as_pointer q) ≡ true → (same_object p q && unsigned_abs (int_rem (pos (offset_of p) -ℤ pos (offset_of q)) (pos words)) == 0) ≡ false → action (p ∷ q ∷ Word words ∷ []) st ≡ Undefined PointerOrder st
  unfolding of_three elements_between of_word difference_of unless undefined ◌>>=◌ after
  apart_objects p q words st e f = rw (e, f) refl

  together : (p q : Value) (words : ℕ) (st : State) → (serves_as_pointer p && serves_as_pointer q) ≡ true → (same_object p q && unsigned_abs (int_rem (pos (offset_of p) -ℤ pos (offset_of q)) (pos words)) == 0) ≡ true →
      action (p ∷ q ∷ Word words ∷ []) st ≡ Gives (Word (wrapped (int_div (pos (offset_of p) -ℤ pos (offset_of q)) (pos words)))) st
  unfolding of_three elements_between of_word difference_of unless give ◌>>=◌ after
  together p q words st e f = rw (e, f) refl

  in_one_object : (p q : Value) (words : ℕ) (st : State) → IsValid p → IsValid q → 0 < words → words < 2 ^ 23 → (serves_as_pointer p && serves_as_pointer q) ≡ true →
      (same_object p q && unsigned_abs (int_rem (pos (offset_of p) -ℤ pos (offset_of q)) (pos words)) == 0) ≡ true → same_object p q ≡ true → helps_to h t input name action (p ∷ q ∷ Word words ∷ []) st ≡ action (p ∷ q ∷ Word words ∷ []) st
  in_one_object (Point o i) (Point u j) words st pv qv some few e f same =
      use_gives h t input name (Point o i ∷ Point u j ∷ Word words ∷ []) action st st _ (together (Point o i) (Point u j) words st e f) (points_use o i u j words st some few same ∙ ap (λ z. Gives (Word z) st) (quotient_is i j words pv qv few))
  in_one_object (Letter a m text i) (Letter b n other j) words st pv qv some few e f same =
      use_gives h t input name (Letter a m text i ∷ Letter b n other j ∷ Word words ∷ []) action st st _ (together (Letter a m text i) (Letter b n other j) words st e f) (letters_use a m text i b n other j words st some few same ∙ ap (λ z. Gives (Word z) st) (quotient_is i j words pv.1 qv.1 few))
  in_one_object (Word x) q words st pv qv some few e f same = absurd (cc same)
  in_one_object Null q words st pv qv some few e f same = absurd (cc same)
  in_one_object (Function g) q words st pv qv some few e f same = absurd (cc same)
  in_one_object Missing q words st pv qv some few e f same = absurd (cc same)
  in_one_object (Point o i) (Word x) words st pv qv some few e f same = absurd (cc same)
  in_one_object (Point o i) Null words st pv qv some few e f same = absurd (cc same)
  in_one_object (Point o i) (Letter b n other j) words st pv qv some few e f same = absurd (cc same)
  in_one_object (Point o i) (Function g) words st pv qv some few e f same = absurd (cc same)
  in_one_object (Point o i) Missing words st pv qv some few e f same = absurd (cc same)
  in_one_object (Letter a m text i) (Word x) words st pv qv some few e f same = absurd (cc same)
  in_one_object (Letter a m text i) Null words st pv qv some few e f same = absurd (cc same)
  in_one_object (Letter a m text i) (Point u j) words st pv qv some few e f same = absurd (cc same)
  in_one_object (Letter a m text i) (Function g) words st pv qv some few e f same = absurd (cc same)
  in_one_object (Letter a m text i) Missing words st pv qv some few e f same = absurd (cc same)

  by_rest : (p q : Value) (words : ℕ) (st : State) → IsValid p → IsValid q → 0 < words → words < 2 ^ 23 → (serves_as_pointer p && serves_as_pointer q) ≡ true → (b : Bool) →
      (same_object p q && unsigned_abs (int_rem (pos (offset_of p) -ℤ pos (offset_of q)) (pos words)) == 0) ≡ b → helps_to h t input name action (p ∷ q ∷ Word words ∷ []) st ≡ action (p ∷ q ∷ Word words ∷ []) st
  by_rest p q words st pv qv some few e true f = in_one_object p q words st pv qv some few e f (and_parts (same_object p q) (unsigned_abs (int_rem (pos (offset_of p) -ℤ pos (offset_of q)) (pos words)) == 0) f).0
  by_rest p q words st pv qv some few e false f = undefined_use p q words st PointerOrder (apart_objects p q words st e f)

  by_kind : (p q : Value) (words : ℕ) (st : State) → IsValid p → IsValid q → 0 < words → words < 2 ^ 23 → (b : Bool) → (serves_as_pointer p && serves_as_pointer q) ≡ b →
      helps_to h t input name action (p ∷ q ∷ Word words ∷ []) st ≡ action (p ∷ q ∷ Word words ∷ []) st
  by_kind p q words st pv qv some few true e = by_rest p q words st pv qv some few e (same_object p q && unsigned_abs (int_rem (pos (offset_of p) -ℤ pos (offset_of q)) (pos words)) == 0) refl
  by_kind p q words st pv qv some few false e = undefined_use p q words st OtherKind (apart_kinds p q words st e)

  pub differences : (p q : Value) (words : ℕ) (st : State) → IsValid p → IsValid q → 0 < words → words < 2 ^ 23 → helps_to h t input name action (p ∷ q ∷ Word words ∷ []) st ≡ action (p ∷ q ∷ Word words ∷ []) st
  differences p q words st pv qv some few = by_kind p q words st pv qv some few (serves_as_pointer p && serves_as_pointer q) refl
