-- The function that writes ints, in a text that has it.
use Rattle.std.proofs.Common.{◌≡◌, ℕ, zero, suc, ◌+◌, ◌-◌, ◌*◌, ◌^◌, ◌<◌, ◌≤◌, List, [], ◌∷◌, ◌++◌, Some, Bool, true, false, nat_le, refl, sym, ap, ap₂, ◌∙◌, subst, arith, append_assoc}
use Rattle.std.specs.Prelude.{pos, neg_ℤ, int_lt, ◌&&◌}
use Rattle.std.specs.Fmt.{digits, signed_decimal}
use Rattle.std.proofs.lemmas.Bool.{lt-ltb, le-leb, leb-true, leb-false}
use Rattle.word24.specs.Word.{signed_of}
use Rattle.c_types.specs.Types as type
use Rattle.c_types.specs.Types.{Tags}
use Rattle.c_types.specs.Constants.{wrapped}
use Rattle.c_types.specs.Scope.{Names}
use Rattle.c_eval.specs.State.{Value, Word, Missing, Object, State, Gives}
use Rattle.c_eval.specs.Run.{unless, give, put}
use Rattle.c_eval.specs.Operators.{used, of_word, word_result, on_words, on_word, order, operated}
use Rattle.c_eval.specs.Text.{Definition, Text, function_named}
use Rattle.c_eval.specs.Helpers.{Helpers, helper_runs, helper_calls}
use Rattle.c_helpers.specs.Functions.{print_unsigned, print_signed}
use Rattle.c_apart.proofs.Apart.{Done, Part, p_after, p_bind, p_give, p_stuck, p_choose, p_paid, p_spend, p_given, p_outer, p_named, p_read, p_load, p_put, p_write, p_store, p_own_value, p_assigned, p_variable, p_used, p_unary, p_compared, p_operated, p_combined, p_assignment, p_put_one, p_call, p_condition, p_go_on, p_within, p_enter, p_leave, p_result, p_function}
use Rattle.c_apart.proofs.Uses.{Apart, call_apart}
use Rattle.c_apart.proofs.Words.{is_below_zero, negated}
use Rattle.c_products.proofs.Product.{holding}
use Rattle.c_products.proofs.Arithmetic.{low_is, high_is}
use Rattle.c_products.proofs.IntQuotient.{p_one, one_nested}
use Rattle.c_products.specs.MovesFound.{KnowsOf, definition}
use Rattle.c_formats.specs.Places.{digits_at, units_at, bytes}
use Rattle.c_formats.specs.DigitsLaws.{unsigned_parameter, int_parameter, KnowsPut, HasDigit, HasUnsigned, HasSigned}
use Rattle.c_formats.proofs.Numbers.{digits_are}
use Rattle.c_formats.proofs.Written.{may_write, p_number, number_splits, units_bound}

abbrev part : ℕ → List ℕ → List Value → Part Value
part deep = p_one print_unsigned.name (p_number 10 7 deep)

module _ (tags : Tags) (names : Names) (defined : List (List ℕ)) (deep x : ℕ) (st : State) (put_known : KnowsPut names) (known : KnowsOf names type.Void unsigned_parameter print_unsigned) where
  -- behind a sign
  low_runs : (spare : ℕ) → st.spare ≡ suc spare → int_lt (signed_of x) (signed_of 0) ≡ true → may_write deep (record st { spare = spare; output = st.output ++ 45 ∷ [] }) (units_at 10 7 (wrapped (neg_ℤ (pos x))) (wrapped (neg_ℤ (pos x)))) (wrapped (neg_ℤ (pos x))) ≡ true
      → p_function (definition type.Void int_parameter print_signed tags names defined) deep (part deep) (Word x ∷ []) st []
      ≡ Done Missing (record st { spare = spare - suc (units_at 10 7 (wrapped (neg_ℤ (pos x))) (wrapped (neg_ℤ (pos x)))); output = st.output ++ 45 ∷ [] ++ bytes (digits_at 10 7 (wrapped (neg_ℤ (pos x))) (wrapped (neg_ℤ (pos x)))) }) (holding false (wrapped (neg_ℤ (pos x))) ∷ [])
  unfolding p_one p_number p_after p_bind p_give p_stuck p_choose p_paid p_spend p_given p_outer p_named p_read p_load p_put p_write p_store p_own_value p_assigned p_variable p_used p_unary p_compared p_operated p_combined p_assignment p_put_one p_call p_condition p_go_on p_within p_enter p_leave p_result p_function used give unless put of_word word_result on_words on_word order operated
  low_runs spare e below good = rw (below, put_known, e, known.1, good) refl

  high_runs : int_lt (signed_of x) (signed_of 0) ≡ false → may_write deep st (units_at 10 7 x x) x ≡ true
      → p_function (definition type.Void int_parameter print_signed tags names defined) deep (part deep) (Word x ∷ []) st []
      ≡ Done Missing (record st { spare = st.spare - suc (units_at 10 7 x x); output = st.output ++ bytes (digits_at 10 7 x x) }) (holding false x ∷ [])
  unfolding p_one p_number p_after p_bind p_give p_stuck p_choose p_given p_outer p_named p_read p_load p_own_value p_variable p_used p_compared p_operated p_combined p_call p_condition p_go_on p_within p_enter p_leave p_result p_function used give unless of_word word_result on_words order operated
  high_runs above good = rw (above, known.1, good) refl

-- ---- the text of an int

decimal_low : (n : ℕ) → n < 2 ^ 23 → signed_decimal (signed_of n) ≡ digits 10 false n
decimal_low n lt = ap signed_decimal (low_is n lt)

decimal_high : (n : ℕ) → 2 ^ 23 ≤ n → n < 2 ^ 24 → signed_decimal (signed_of n) ≡ 45 ∷ digits 10 false (2 ^ 24 - n)
decimal_high n le lt = ap signed_decimal (high_is n le lt) ∙ of_some (2 ^ 24 - n) (omega (arith, lt))
  where
    of_some : (m : ℕ) → 0 < m → signed_decimal (neg_ℤ (pos m)) ≡ 45 ∷ digits 10 false m
    of_some zero some = absurd (omega (arith, some))
    of_some (suc m) some = refl

may_be : (deep : ℕ) (st : State) (units x : ℕ) → x < 2 ^ 24 → 18 < deep → suc units ≤ st.spare → st.words + 32 ≤ 1024 → may_write deep st units x ≡ true
unfolding may_write
may_be deep st units x sx lt le small = ap₂ (λ a b. a && b) (ap₂ (λ a b. a && b) (ap₂ (λ a b. a && b) (lt-ltb x (2 ^ 24) sx) (lt-ltb 18 deep lt)) (le-leb (suc units) st.spare le)) (le-leb (st.words + 32) 1024 small)

-- the second fuel that is left behind an int, which is below zero or not
abbrev pub signed_spare : Bool → ℕ → ℕ → ℕ
signed_spare true n spare = spare - 1 - suc (units_at 10 7 (wrapped (neg_ℤ (pos n))) (wrapped (neg_ℤ (pos n))))
signed_spare false n spare = spare - suc (units_at 10 7 n n)

module _ (h : Helpers) (t : Text) (one : HasDigit h t) (u : HasUnsigned h t) (own : HasSigned h t) (input : List ℕ) (deep n : ℕ) (st : State) (sn : n < 2 ^ 24) (lt : 255 < deep) (le : 255 ≤ st.spare) (small : st.words + 64 ≤ 1024) where
  abbrev Written : Bool → Type 0
  Written b = helper_runs h t input (helper_calls deep h t input) deep print_signed.name (function_named t print_signed.name) (Word n ∷ []) st ≡ Gives Missing (record st { spare = signed_spare b n st.spare; output = st.output ++ bytes (signed_decimal (signed_of n)) })

  f : Definition
  f = definition type.Void int_parameter print_signed own.0.tags own.0.names own.0.defined

  st1 : State
  st1 = record st { words = st.words + h.charge print_signed.name }

  cut : (spare : ℕ) (output : List ℕ) (objects : List Object) → p_function f deep (part deep) (Word n ∷ []) st1 [] ≡ Done Missing (record st1 { spare = spare; output = output }) objects →
      helper_runs h t input (helper_calls deep h t input) deep print_signed.name (function_named t print_signed.name) (Word n ∷ []) st ≡ Gives Missing (record st { spare = spare; output = output })
  unfolding f st1
  cut spare output objects e =
      ap (λ z. helper_runs h t input (helper_calls deep h t input) deep print_signed.name z (Word n ∷ []) st) own.0.found
      ∙ subst (λ z. Apart z st.words (helper_runs h t input (helper_calls deep h t input) deep print_signed.name (Some f) (Word n ∷ []) st)) e
      (call_apart h t input deep (helper_calls deep h t input) (part deep) print_signed.name f (Word n ∷ []) st
      (λ g us. one_nested _ print_unsigned.name _ (helper_calls deep h t input) (number_splits h t input one print_unsigned.name 10 7 print_unsigned.kinds (omega arith) (omega arith) (omega arith) (omega arith) u.0 u.1 deep _) g us) (omega (arith, small, own.0.charge)))

  units : (x : ℕ) → x < 2 ^ 24 → units_at 10 7 x x ≤ 8 * 17
  units x sx = units_bound h t input one print_unsigned.name 10 7 print_unsigned.kinds (omega arith) (omega arith) (omega arith) (omega arith) u.0 u.1 x sx

  by_sign : (b : Bool) → nat_le (2 ^ 23) n ≡ b → Written b
  unfolding f st1
  by_sign true e =
      let high : 2 ^ 23 ≤ n = leb-true (2 ^ 23) n e in
      let m : ℕ = wrapped (neg_ℤ (pos n)) in
      let is : m ≡ 2 ^ 24 - n = negated n sn ∙ omega (arith, high, sn) in
      let sm : m < 2 ^ 24 = omega (arith, is, high) in
      let few : units_at 10 7 m m ≤ 8 * 17 = units m sm in
      let spare : ℕ = st.spare - 1 in
      let text : bytes (digits_at 10 7 m m) ≡ bytes (digits 10 false (2 ^ 24 - n)) = ap bytes (sym (digits_are 10 7 m (omega arith) (omega arith) (omega (arith, sm))) ∙ ap (λ z. digits 10 false z) is) in
      let good = may_be deep (record st1 { spare = spare; output = st.output ++ 45 ∷ [] }) (units_at 10 7 m m) m sm (omega (arith, lt)) (omega (arith, few, le)) (omega (arith, small, own.0.charge)) in
      cut (spare - suc (units_at 10 7 m m)) _ _ (low_runs own.0.tags own.0.names own.0.defined deep n st1 own.1 own.2 spare (omega (arith, le)) (is_below_zero n sn ∙ e) good)
      ∙ ap (λ out. Gives Missing (record st { spare = spare - suc (units_at 10 7 m m); output = out })) (append_assoc st.output (45 ∷ []) (bytes (digits_at 10 7 m m)) ∙ (ap (λ cs. st.output ++ 45 ∷ cs) text ∙ ap (λ cs. st.output ++ bytes cs) (sym (decimal_high n high sn))))
  by_sign false e =
      let low : n < 2 ^ 23 = leb-false (2 ^ 23) n e in
      let few : units_at 10 7 n n ≤ 8 * 17 = units n sn in
      let good = may_be deep st1 (units_at 10 7 n n) n sn (omega (arith, lt)) (omega (arith, few, le)) (omega (arith, small, own.0.charge)) in
      cut (st.spare - suc (units_at 10 7 n n)) _ _ (high_runs own.0.tags own.0.names own.0.defined deep n st1 own.1 own.2 (is_below_zero n sn ∙ e) good)
      ∙ ap (λ cs. Gives Missing (record st { spare = st.spare - suc (units_at 10 7 n n); output = st.output ++ bytes cs })) (sym (digits_are 10 7 n (omega arith) (omega arith) (omega (arith, sn))) ∙ sym (decimal_low n low))

  pub signed_runs : Written (nat_le (2 ^ 23) n)
  signed_runs = by_sign (nat_le (2 ^ 23) n) refl

  pub signed_written : (spare : ℕ) × (helper_runs h t input (helper_calls deep h t input) deep print_signed.name (function_named t print_signed.name) (Word n ∷ []) st ≡ Gives Missing (record st { spare = spare; output = st.output ++ bytes (signed_decimal (signed_of n)) }))
  signed_written = (signed_spare (nat_le (2 ^ 23) n) n st.spare, signed_runs)
