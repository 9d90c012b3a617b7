-- The functions that write numbers, in a text that has them.
use Rattle.std.proofs.Common.{◌≡◌, ℕ, zero, suc, ◌+◌, ◌-◌, ◌*◌, ◌^◌, ◌<◌, ◌≤◌, List, [], ◌∷◌, ◌++◌, length, Some, Bool, true, false, cond, nat_lt, nat_le, refl, sym, ap, ◌∙◌, subst, arith}
use Rattle.std.specs.Prelude.{◌&&◌}
use Rattle.std.specs.Fmt.{digits}
use Rattle.std.proofs.lemmas.Bool.{ltb-true, leb-true, and_parts}
use Rattle.c_syntax.specs.Plain.{stmts}
use Rattle.c_types.specs.Types as type
use Rattle.c_types.specs.Types.{Tags}
use Rattle.c_types.specs.Room.{Kind}
use Rattle.c_types.specs.Scope as entity
use Rattle.c_types.specs.Scope.{Scope, Names}
use Rattle.c_eval.specs.State.{Value, Word, Null, Point, Letter, Function, Missing, Object, State, Gives, Run}
use Rattle.c_eval.specs.Run.{give, paid, spend_spare}
use Rattle.c_eval.specs.Operators.{used}
use Rattle.c_eval.specs.Eval.{Next}
use Rattle.c_eval.specs.Text.{Definition, Text, function_named}
use Rattle.c_eval.specs.Helpers.{Helpers, helper_runs, known_or, helper_calls}
use Rattle.c_helpers.specs.Functions.{a, r, digit, places, digits_of, print_unsigned, print_hex}
use Rattle.c_apart.proofs.Apart.{Done, Stuck, Part, p_after, p_bind, p_give, p_stuck, p_choose, p_given, p_outer, p_named, p_read, p_load, p_put, p_write, p_store, p_own_value, p_assigned, p_variable, p_used, p_first, p_go_on, p_within, p_enter, p_leave, p_all, p_result, p_function}
use Rattle.c_apart.proofs.Splitting.{Joins, Split, joined, itself}
use Rattle.c_apart.proofs.Uses.{Apart, call_apart}
use Rattle.c_products.proofs.Product.{holding}
use Rattle.c_products.proofs.IntQuotient.{one_nested}
use Rattle.c_products.specs.MovesFound.{Has, KnowsOf, definition}
use Rattle.c_formats.specs.Places.{powers, digits_at, rest_at, units_at, bytes}
use Rattle.c_formats.specs.DigitsLaws.{digit_parameters, unsigned_parameter, HasDigit, HasUnsigned, HasHex}
use Rattle.c_formats.proofs.Numbers.{digits_are}
use Rattle.c_formats.proofs.Calls.{digit_splits}
use Rattle.c_formats.proofs.Sequence.{two, here, digit_part, none_declared, places_run, units_few}

-- the number is written, behind the declaration of what is left
number_runs : (name : List ℕ) (b k : ℕ) (kinds : List Kind) (tags : Tags) (names : Names) (defined : List (List ℕ)) (deep x z : ℕ) (sub : List ℕ → List Value → Part Value) (st st1 : State)
    → p_all (stmts (places (powers b k))) deep sub (here tags names defined 0) st (two x x) ≡ Done Next st1 (two x z)
    → p_function (definition type.Void unsigned_parameter (digits_of name (powers b k) kinds) tags names defined) deep sub (Word x ∷ []) st [] ≡ Done Missing st1 (holding false x ∷ holding false z ∷ [])
unfolding p_after p_bind p_give p_stuck p_choose p_given p_outer p_named p_read p_load p_put p_write p_store p_own_value p_assigned p_variable p_used p_first p_go_on p_within p_enter p_leave p_result p_function used give
number_runs name b k kinds tags names defined deep x z sub st st1 e =
    rw (none_declared (powers b k) (record { tags = tags; block = (r, entity.Object type.Unsigned) ∷ []; outer = (a, entity.Object type.Unsigned) ∷ names; defined = defined }), e) refl

-- what can be told of a call of such a function by another
unfoldable pub may_write : ℕ → State → ℕ → ℕ → Bool
may_write deep st units x = nat_lt x (2 ^ 24) && nat_lt 18 deep && nat_le (suc units) st.spare && nat_le (st.words + 32) 1024

unfoldable pub p_number : (b k deep : ℕ) → List Value → Part Value
p_number b k deep (Word x ∷ []) st own = cond (may_write deep st (units_at b k x x) x) (Done Missing (record st { spare = st.spare - suc (units_at b k x x); output = st.output ++ bytes (digits_at b k x x) }) own) Stuck
p_number b k deep _ st own = Stuck

module _ (h : Helpers) (t : Text) (input : List ℕ) (one : HasDigit h t) (name : List ℕ) (b k : ℕ) (kinds : List Kind) (low : 2 ≤ b) (high : b ≤ 16) (fits : b ^ k < 2 ^ 24) (all : 2 ^ 24 ≤ b ^ suc k)
    (own : Has h t type.Void unsigned_parameter (digits_of name (powers b k) kinds)) (known : KnowsOf own.names type.Unsigned digit_parameters digit) where
  abbrev body : ℕ → ℕ → Run Value
  body deep x = helper_runs h t input (helper_calls deep h t input) deep name (function_named t name) (Word x ∷ [])

  pub runs_to : (deep x : ℕ) (st : State) → 17 < deep → x < 2 ^ 24 → units_at b k x x ≤ st.spare → st.words + 32 ≤ 1024 → body deep x st ≡ Gives Missing (record st { spare = st.spare - units_at b k x x; output = st.output ++ bytes (digits_at b k x x) })
  runs_to deep x st lt sx le small =
      ap (λ z. helper_runs h t input (helper_calls deep h t input) deep name z (Word x ∷ []) st) own.found
      ∙ subst (λ z. Apart z st.words (helper_runs h t input (helper_calls deep h t input) deep name (Some f) (Word x ∷ []) st)) runs
      (call_apart h t input deep (helper_calls deep h t input) (digit_part deep) name f (Word x ∷ []) st (λ g us. one_nested _ digit.name _ (helper_calls deep h t input) (digit_splits h t input one.0 one.1 deep _) g us) (omega (arith, small, own.charge)))
    where
      f : Definition
      f = definition type.Void unsigned_parameter (digits_of name (powers b k) kinds) own.tags own.names own.defined

      st1 : State
      st1 = record st { words = st.words + h.charge name }

      runs : p_function f deep (digit_part deep) (Word x ∷ []) st1 [] ≡ Done Missing (record st1 { spare = st.spare - units_at b k x x; output = st.output ++ bytes (digits_at b k x x) }) (holding false x ∷ holding false (rest_at b k x x) ∷ [])
      runs = number_runs name b k kinds own.tags own.names own.defined deep x (rest_at b k x x) (digit_part deep) st1 (record st1 { spare = st.spare - units_at b k x x; output = st.output ++ bytes (digits_at b k x x) })
          (places_run own.tags own.names own.defined deep known b x low high sx lt k x 0 st1 fits (omega (arith, sx, all)) (omega arith) le (omega (arith, small, own.charge)))

  paid_for : (deep x : ℕ) (st : State) (c : ℕ) → 17 < deep → st.spare ≡ c → x < 2 ^ 24 → suc (units_at b k x x) ≤ c → st.words + 32 ≤ 1024 →
      helper_calls (suc deep) h t input name (Word x ∷ []) st ≡ Gives Missing (record st { spare = st.spare - suc (units_at b k x x); output = st.output ++ bytes (digits_at b k x x) })
  unfolding helper_calls known_or paid spend_spare
  paid_for deep x st zero lt e sx le small = absurd (omega (arith, le))
  paid_for deep x st (suc c) lt e sx le small =
      ap (λ z. known_or z (Word x ∷ []) (paid true (body deep x)) st) own.unknown
      ∙ (ap (λ z. spend_spare (body deep x) z st) e
      ∙ (runs_to deep x (record st { spare = c }) lt sx (omega (arith, le)) small ∙ ap (λ z. Gives Missing (record st { spare = z; output = st.output ++ bytes (digits_at b k x x) })) (omega (arith, e))))

  word_splits : (deep n x : ℕ) (st : State) (objects : List Object) → length st.objects ≡ n → (b' : Bool) → may_write deep st (units_at b k x x) x ≡ b' →
      Joins {A = Value} n itself (cond b' (Done Missing (record st { spare = st.spare - suc (units_at b k x x); output = st.output ++ bytes (digits_at b k x x) }) objects) Stuck) (helper_calls deep h t input name (Word x ∷ []) (joined st objects))
  unfolding may_write
  word_splits deep n x st objects l false e = tt
  word_splits zero n x st objects l true e =
      let a = and_parts (nat_lt x (2 ^ 24) && nat_lt 18 zero && nat_le (suc (units_at b k x x)) st.spare) (nat_le (st.words + 32) 1024) e in
      let c = and_parts (nat_lt x (2 ^ 24) && nat_lt 18 zero) (nat_le (suc (units_at b k x x)) st.spare) a.0 in
      absurd (cc (and_parts (nat_lt x (2 ^ 24)) (nat_lt 18 zero) c.0).1)
  word_splits (suc deep) n x st objects l true e =
      let a = and_parts (nat_lt x (2 ^ 24) && nat_lt 18 (suc deep) && nat_le (suc (units_at b k x x)) st.spare) (nat_le (st.words + 32) 1024) e in
      let c = and_parts (nat_lt x (2 ^ 24) && nat_lt 18 (suc deep)) (nat_le (suc (units_at b k x x)) st.spare) a.0 in
      let d = and_parts (nat_lt x (2 ^ 24)) (nat_lt 18 (suc deep)) c.0 in
      let lt : 18 < suc deep = ltb-true 18 (suc deep) d.1 in
      (paid_for deep x (joined st objects) st.spare (omega (arith, lt)) refl (ltb-true x (2 ^ 24) d.0) (leb-true (suc (units_at b k x x)) st.spare c.1) (leb-true (st.words + 32) 1024 a.1), l)

  pub number_splits : (deep n : ℕ) (vs : List Value) → Split n itself (p_number b k deep vs) (helper_calls deep h t input name vs)
  unfolding p_number
  number_splits deep n (Word x ∷ []) = record { follows = λ st objects l. word_splits deep n x st objects l (may_write deep st (units_at b k x x) x) refl }
  number_splits deep n [] = record { follows = λ st objects l. tt }
  number_splits deep n (Word x ∷ y ∷ vs) = record { follows = λ st objects l. tt }
  number_splits deep n (Null ∷ vs) = record { follows = λ st objects l. tt }
  number_splits deep n (Point o i ∷ vs) = record { follows = λ st objects l. tt }
  number_splits deep n (Letter g i text j ∷ vs) = record { follows = λ st objects l. tt }
  number_splits deep n (Function g ∷ vs) = record { follows = λ st objects l. tt }
  number_splits deep n (Missing ∷ vs) = record { follows = λ st objects l. tt }

  pub units_bound : (x : ℕ) → x < 2 ^ 24 → units_at b k x x ≤ suc k * 17
  units_bound x sx = units_few own.tags own.names own.defined 18 known b x low high sx (omega arith) k x (omega (arith, sx, all)) (omega arith)

-- ---- unsigned numbers

module _ (h : Helpers) (t : Text) (one : HasDigit h t) where
  pub unsigned_written : HasUnsigned h t → (input : List ℕ) (deep n : ℕ) (st : State) → n < 2 ^ 24 → 255 < deep → 255 ≤ st.spare → st.words + 64 ≤ 1024 → (spare : ℕ) × (helper_runs h t input (helper_calls deep h t input) deep print_unsigned.name (function_named t print_unsigned.name) (Word n ∷ []) st ≡ Gives Missing (record st { spare = spare; output = st.output ++ bytes (digits 10 false n) }))
  unsigned_written u input deep n st sn lt le small =
      let few : units_at 10 7 n n ≤ 8 * 17 = units_bound h t input one print_unsigned.name 10 7 print_unsigned.kinds (omega arith) (omega arith) (omega arith) (omega arith) u.0 u.1 n sn in (
        st.spare - units_at 10 7 n n,
        runs_to h t input one print_unsigned.name 10 7 print_unsigned.kinds (omega arith) (omega arith) (omega arith) (omega arith) u.0 u.1 deep n st (omega (arith, lt)) sn (omega (arith, few, le)) (omega (arith, small))
            ∙ ap (λ cs. Gives Missing (record st { spare = st.spare - units_at 10 7 n n; output = st.output ++ bytes cs })) (sym (digits_are 10 7 n (omega arith) (omega arith) (omega (arith, sn)))),
      )

  pub hex_written : HasHex h t → (input : List ℕ) (deep n : ℕ) (st : State) → n < 2 ^ 24 → 255 < deep → 255 ≤ st.spare → st.words + 64 ≤ 1024 → (spare : ℕ) × (helper_runs h t input (helper_calls deep h t input) deep print_hex.name (function_named t print_hex.name) (Word n ∷ []) st ≡ Gives Missing (record st { spare = spare; output = st.output ++ bytes (digits 16 false n) }))
  hex_written u input deep n st sn lt le small =
      let few : units_at 16 5 n n ≤ 6 * 17 = units_bound h t input one print_hex.name 16 5 print_hex.kinds (omega arith) (omega arith) (omega arith) (omega arith) u.0 u.1 n sn in (
        st.spare - units_at 16 5 n n,
        runs_to h t input one print_hex.name 16 5 print_hex.kinds (omega arith) (omega arith) (omega arith) (omega arith) u.0 u.1 deep n st (omega (arith, lt)) sn (omega (arith, few, le)) (omega (arith, small))
            ∙ ap (λ cs. Gives Missing (record st { spare = st.spare - units_at 16 5 n n; output = st.output ++ bytes cs })) (sym (digits_are 16 5 n (omega arith) (omega arith) (omega (arith, sn)))),
      )
