-- Calls of the function of one digit by other helper functions.
use Rattle.std.proofs.Common.{◌≡◌, ℕ, zero, suc, ◌+◌, ◌-◌, ◌/◌, ◌%◌, ◌^◌, ◌<◌, ◌≤◌, List, [], ◌∷◌, ◌++◌, length, Some, Bool, true, false, cond, nat_lt, nat_le, refl, ap, ◌∙◌, subst, arith}
use Rattle.std.specs.Prelude.{◌&&◌}
use Rattle.std.specs.Fmt.{digit_glyph}
use Rattle.std.proofs.lemmas.Bool.{ltb-true, leb-true, and_parts}
use Rattle.c_types.specs.Types as type
use Rattle.c_eval.specs.State.{Value, Word, Null, Point, Letter, Function, Missing, Object, State, Gives, Run}
use Rattle.c_eval.specs.Run.{paid, spend_spare}
use Rattle.c_eval.specs.Text.{Definition, Text, function_named}
use Rattle.c_eval.specs.Helpers.{Helpers, helper_runs, known_or, helper_calls}
use Rattle.c_helpers.specs.Functions.{digit}
use Rattle.c_apart.proofs.Apart.{Out, Done, Stuck, Part, nobody, p_function}
use Rattle.c_apart.proofs.Splitting.{Joins, Split, joined, itself, stuck_splits}
use Rattle.c_apart.proofs.Uses.{Apart, call_apart}
use Rattle.c_products.specs.MovesFound.{Has, definition}
use Rattle.c_formats.specs.DigitsLaws.{digit_parameters, KnowsPut}
use Rattle.c_formats.proofs.Digit.{digit_runs}

-- what is written: the letter of how often y is in x
abbrev pub digit_out : ℕ → ℕ → List ℕ
digit_out x y = digit_glyph false (x / y) % 2 ^ 8 ∷ []

unfoldable pub may_digit : ℕ → State → ℕ → ℕ → Bool
may_digit deep st x y = nat_lt x (2 ^ 24) && nat_lt 0 y && nat_lt (x / y) 16 && nat_lt 17 deep && nat_le (x / y + 2) st.spare && nat_le (st.words + 16) 1024

unfoldable pub p_digit : ℕ → List Value → Part Value
p_digit deep (Word x ∷ Word y ∷ []) st own = cond (may_digit deep st x y) (Done (Word (x % y)) (record st { spare = st.spare - (x / y + 2); output = st.output ++ digit_out x y }) own) Stuck
p_digit deep _ st own = Stuck

module _ (h : Helpers) (t : Text) (input : List ℕ) (own : Has h t type.Unsigned digit_parameters digit) (known : KnowsPut own.names) where
  abbrev body : ℕ → ℕ → ℕ → Run Value
  body deep x y = helper_runs h t input (helper_calls deep h t input) deep digit.name (function_named t digit.name) (Word x ∷ Word y ∷ [])

  pub runs_to : (deep x y : ℕ) (st : State) → 16 < deep → x < 2 ^ 24 → 0 < y → x / y < 16 → x / y + 1 ≤ st.spare → st.words + 16 ≤ 1024 →
      body deep x y st ≡ Gives (Word (x % y)) (record st { spare = st.spare - (x / y + 1); output = st.output ++ digit_out x y })
  runs_to deep x y st lt sx some few le small =
      ap (λ z. helper_runs h t input (helper_calls deep h t input) deep digit.name z (Word x ∷ Word y ∷ []) st) own.found
      ∙ subst (λ z. Apart z st.words (helper_runs h t input (helper_calls deep h t input) deep digit.name (Some f) (Word x ∷ Word y ∷ []) st)) runs
      (call_apart h t input deep (helper_calls deep h t input) nobody digit.name f (Word x ∷ Word y ∷ []) st (λ g us. stuck_splits) (omega (arith, small, own.charge)))
    where
      f : Definition
      f = definition type.Unsigned digit_parameters digit own.tags own.names own.defined

      st1 : State
      st1 = record st { words = st.words + h.charge digit.name }

      spare : ℕ
      spare = st.spare - (x / y + 1)

      begins : st.spare ≡ x / y + suc spare
      begins = omega (arith, le)

      ran : (objects : List Object) × (p_function f deep nobody (Word x ∷ Word y ∷ []) (record st1 { spare = x / y + suc spare }) [] ≡ Done (Word (x % y)) (record st1 { spare = spare; output = st.output ++ digit_out x y }) objects)
      ran = digit_runs own.tags own.names own.defined deep spare x y st1 sx some few (omega (arith, few, lt)) known

      runs : p_function f deep nobody (Word x ∷ Word y ∷ []) st1 [] ≡ Done (Word (x % y)) (record st1 { spare = spare; output = st.output ++ digit_out x y }) ran.0
      runs = ap (λ z. p_function f deep nobody (Word x ∷ Word y ∷ []) (record st1 { spare = z }) []) begins ∙ ran.1

  paid_for : (deep x y : ℕ) (st : State) (c : ℕ) → 16 < deep → st.spare ≡ c → x < 2 ^ 24 → 0 < y → x / y < 16 → x / y + 2 ≤ c → st.words + 16 ≤ 1024 →
      helper_calls (suc deep) h t input digit.name (Word x ∷ Word y ∷ []) st ≡ Gives (Word (x % y)) (record st { spare = st.spare - (x / y + 2); output = st.output ++ digit_out x y })
  unfolding helper_calls known_or paid spend_spare
  paid_for deep x y st zero lt e sx some few le small = absurd (omega (arith, le))
  paid_for deep x y st (suc c) lt e sx some few le small =
      ap (λ z. known_or z (Word x ∷ Word y ∷ []) (paid true (body deep x y)) st) own.unknown
      ∙ (ap (λ z. spend_spare (body deep x y) z st) e
      ∙ (runs_to deep x y (record st { spare = c }) lt sx some few (omega (arith, le)) small ∙ ap (λ z. Gives (Word (x % y)) (record st { spare = z; output = st.output ++ digit_out x y })) (omega (arith, e))))

  abbrev shown : State → List Object → ℕ → ℕ → Bool → Out Value
  shown st objects x y b = cond b (Done (Word (x % y)) (record st { spare = st.spare - (x / y + 2); output = st.output ++ digit_out x y }) objects) Stuck

  words_split : (deep n x y : ℕ) (st : State) (objects : List Object) → length st.objects ≡ n → (b : Bool) → may_digit deep st x y ≡ b → Joins n itself (shown st objects x y b) (helper_calls deep h t input digit.name (Word x ∷ Word y ∷ []) (joined st objects))
  unfolding may_digit
  words_split deep n x y st objects l false e = tt
  words_split zero n x y st objects l true e =
      let a = and_parts (nat_lt x (2 ^ 24) && nat_lt 0 y && nat_lt (x / y) 16 && nat_lt 17 zero && nat_le (x / y + 2) st.spare) (nat_le (st.words + 16) 1024) e in
      let b = and_parts (nat_lt x (2 ^ 24) && nat_lt 0 y && nat_lt (x / y) 16 && nat_lt 17 zero) (nat_le (x / y + 2) st.spare) a.0 in
      absurd (cc (and_parts (nat_lt x (2 ^ 24) && nat_lt 0 y && nat_lt (x / y) 16) (nat_lt 17 zero) b.0).1)
  words_split (suc deep) n x y st objects l true e =
      let a = and_parts (nat_lt x (2 ^ 24) && nat_lt 0 y && nat_lt (x / y) 16 && nat_lt 17 (suc deep) && nat_le (x / y + 2) st.spare) (nat_le (st.words + 16) 1024) e in
      let b = and_parts (nat_lt x (2 ^ 24) && nat_lt 0 y && nat_lt (x / y) 16 && nat_lt 17 (suc deep)) (nat_le (x / y + 2) st.spare) a.0 in
      let c = and_parts (nat_lt x (2 ^ 24) && nat_lt 0 y && nat_lt (x / y) 16) (nat_lt 17 (suc deep)) b.0 in
      let d = and_parts (nat_lt x (2 ^ 24) && nat_lt 0 y) (nat_lt (x / y) 16) c.0 in
      let f = and_parts (nat_lt x (2 ^ 24)) (nat_lt 0 y) d.0 in
      let lt : 17 < suc deep = ltb-true 17 (suc deep) c.1 in
      (paid_for deep x y (joined st objects) st.spare (omega (arith, lt)) refl (ltb-true x (2 ^ 24) f.0) (ltb-true 0 y f.1) (ltb-true (x / y) 16 d.1) (leb-true (x / y + 2) st.spare b.1) (leb-true (st.words + 16) 1024 a.1), l)

  pub digit_splits : (deep n : ℕ) (vs : List Value) → Split n itself (p_digit deep vs) (helper_calls deep h t input digit.name vs)
  unfolding p_digit
  digit_splits deep n (Word x ∷ Word y ∷ []) = record { follows = λ st objects l. words_split deep n x y st objects l (may_digit deep st x y) refl }
  digit_splits deep n [] = record { follows = λ st objects l. tt }
  digit_splits deep n (Word x ∷ []) = record { follows = λ st objects l. tt }
  digit_splits deep n (Word x ∷ Word y ∷ z ∷ vs) = record { follows = λ st objects l. tt }
  digit_splits deep n (Word x ∷ Null ∷ vs) = record { follows = λ st objects l. tt }
  digit_splits deep n (Word x ∷ Point o k ∷ vs) = record { follows = λ st objects l. tt }
  digit_splits deep n (Word x ∷ Letter g i text k ∷ vs) = record { follows = λ st objects l. tt }
  digit_splits deep n (Word x ∷ Function g ∷ vs) = record { follows = λ st objects l. tt }
  digit_splits deep n (Word x ∷ Missing ∷ vs) = record { follows = λ st objects l. tt }
  digit_splits deep n (Null ∷ vs) = record { follows = λ st objects l. tt }
  digit_splits deep n (Point o k ∷ vs) = record { follows = λ st objects l. tt }
  digit_splits deep n (Letter g i text k ∷ vs) = record { follows = λ st objects l. tt }
  digit_splits deep n (Function g ∷ vs) = record { follows = λ st objects l. tt }
  digit_splits deep n (Missing ∷ vs) = record { follows = λ st objects l. tt }
