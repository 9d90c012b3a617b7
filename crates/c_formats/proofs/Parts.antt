-- The functions that a format's function calls.
use Rattle.std.proofs.Common.{◌≡◌, ℕ, zero, suc, ◌+◌, ◌-◌, ◌^◌, ◌<◌, ◌≤◌, List, [], ◌∷◌, ◌++◌, length, Option, Some, Bool, true, false, cond, nat_lt, nat_le, refl, sym, ap, ◌∙◌, subst, arith}
use Rattle.std.specs.Prelude.{◌&&◌, if◌then◌else◌}
use Rattle.std.specs.Fmt.{signed_decimal}
use Rattle.std.specs.Str.{bytes_eq}
use Rattle.std.proofs.lemmas.Bool.{ltb-true, leb-true, and_parts}
use Rattle.std.proofs.lemmas.Slice.Eq.{bytes_eq-Decides}
use Rattle.word24.specs.Word.{signed_of}
use Rattle.c_eval.specs.State.{Value, Word, Null, Point, Letter, Function, Missing, Object, State, Gives, Run}
use Rattle.c_eval.specs.Run.{◌>>=◌, after, give, paid, spend_spare}
use Rattle.c_eval.specs.Text.{Text, function_named}
use Rattle.c_eval.specs.Helpers.{Helpers, refill, helper_runs, known_or, helper_calls}
use Rattle.c_helpers.specs.Functions.{refill_name, print_unsigned, print_hex, print_signed, print_string}
use Rattle.c_helpers.specs.Meanings.{Action}
use Rattle.c_apart.proofs.Apart.{Done, Stuck, Part, p_choose, p_stuck}
use Rattle.c_apart.proofs.Splitting.{Joins, Split, joined, itself, stuck_splits}
use Rattle.c_formats.specs.Places.{bytes}
use Rattle.c_formats.specs.DigitsLaws.{HasDigit, HasUnsigned, HasSigned}
use Rattle.c_formats.proofs.Written.{p_number, number_splits}
use Rattle.c_formats.proofs.Signed.{signed_spare, signed_runs}
use Rattle.c_formats.specs.StringsLaws.{Known}
use Rattle.c_formats.proofs.Turn.{p_known, known_splits}
use Rattle.c_formats.proofs.Puts.{p_string, string_splits}
use Rattle.c_formats.specs.Laws.{has_letter, HasFormat}

-- ---- ints

unfoldable pub may_sign : ℕ → State → ℕ → Bool
may_sign deep st n = nat_lt n (2 ^ 24) && nat_lt 256 deep && nat_le 256 st.spare && nat_le (st.words + 64) 1024

unfoldable pub p_signed : ℕ → List Value → Part Value
p_signed deep (Word n ∷ []) st own =
    cond (may_sign deep st n) (Done Missing (record st { spare = signed_spare (nat_le (2 ^ 23) n) n (st.spare - 1); output = st.output ++ bytes (signed_decimal (signed_of n)) }) own) Stuck
p_signed deep _ st own = Stuck

module _ (h : Helpers) (t : Text) (input : List ℕ) (one : HasDigit h t) (u : HasUnsigned h t) (own : HasSigned h t) where
  paid_for : (deep n : ℕ) (st : State) (c : ℕ) → st.spare ≡ suc c → 255 < deep → n < 2 ^ 24 → 255 ≤ c → st.words + 64 ≤ 1024
      → helper_calls (suc deep) h t input print_signed.name (Word n ∷ []) st ≡ Gives Missing (record st { spare = signed_spare (nat_le (2 ^ 23) n) n c; output = st.output ++ bytes (signed_decimal (signed_of n)) })
  unfolding helper_calls known_or paid spend_spare
  paid_for deep n st c e lt sn le small =
      ap (λ z. known_or z (Word n ∷ []) (paid true (helper_runs h t input (helper_calls deep h t input) deep print_signed.name (function_named t print_signed.name) (Word n ∷ []))) st) own.0.unknown
      ∙ (ap (λ z. spend_spare (helper_runs h t input (helper_calls deep h t input) deep print_signed.name (function_named t print_signed.name) (Word n ∷ [])) z st) e
      ∙ signed_runs h t one u own input deep n (record st { spare = c }) sn lt le small)

  int_splits : (deep k n : ℕ) (st : State) (objects : List Object) → length st.objects ≡ k → (b : Bool) → may_sign deep st n ≡ b →
      Joins {A = Value} k itself (cond b (Done Missing (record st { spare = signed_spare (nat_le (2 ^ 23) n) n (st.spare - 1); output = st.output ++ bytes (signed_decimal (signed_of n)) }) objects) Stuck)
      (helper_calls deep h t input print_signed.name (Word n ∷ []) (joined st objects))
  unfolding may_sign
  int_splits deep k n st objects l false e = tt
  int_splits zero k n st objects l true e =
      let a = and_parts (nat_lt n (2 ^ 24) && nat_lt 256 zero && nat_le 256 st.spare) (nat_le (st.words + 64) 1024) e in
      let b = and_parts (nat_lt n (2 ^ 24) && nat_lt 256 zero) (nat_le 256 st.spare) a.0 in
      absurd (cc (and_parts (nat_lt n (2 ^ 24)) (nat_lt 256 zero) b.0).1)
  int_splits (suc deep) k n st objects l true e =
      let a = and_parts (nat_lt n (2 ^ 24) && nat_lt 256 (suc deep) && nat_le 256 st.spare) (nat_le (st.words + 64) 1024) e in
      let b = and_parts (nat_lt n (2 ^ 24) && nat_lt 256 (suc deep)) (nat_le 256 st.spare) a.0 in
      let d = and_parts (nat_lt n (2 ^ 24)) (nat_lt 256 (suc deep)) b.0 in
      let lt : 256 < suc deep = ltb-true 256 (suc deep) d.1 in
      let le : 256 ≤ st.spare = leb-true 256 st.spare b.1 in
      (paid_for deep n (joined st objects) (st.spare - 1) (omega (arith, le)) (omega (arith, lt)) (ltb-true n (2 ^ 24) d.0) (omega (arith, le)) (leb-true (st.words + 64) 1024 a.1), l)

  signed_splits : (deep k : ℕ) (vs : List Value) → Split k itself (p_signed deep vs) (helper_calls deep h t input print_signed.name vs)
  unfolding p_signed
  signed_splits deep k (Word n ∷ []) = record { follows = λ st objects l. int_splits deep k n st objects l (may_sign deep st n) refl }
  signed_splits deep k [] = record { follows = λ st objects l. tt }
  signed_splits deep k (Word n ∷ y ∷ vs) = record { follows = λ st objects l. tt }
  signed_splits deep k (Null ∷ vs) = record { follows = λ st objects l. tt }
  signed_splits deep k (Point o i ∷ vs) = record { follows = λ st objects l. tt }
  signed_splits deep k (Letter g i text j ∷ vs) = record { follows = λ st objects l. tt }
  signed_splits deep k (Function g ∷ vs) = record { follows = λ st objects l. tt }
  signed_splits deep k (Missing ∷ vs) = record { follows = λ st objects l. tt }

-- ---- the second fuel

unfoldable pub p_refill : ℕ → ℕ → Part Value
p_refill ration zero st own = Stuck
p_refill ration (suc deep) st own = Done Missing (record st { spare = ration }) own

module _ (h : Helpers) (t : Text) (input : List ℕ) (known : Known h) where
  refill_known : (n : ℕ) (o : Option Action) (f : Action) (vs : List Value) (m : Run Value) (s : Part Value) → o ≡ Some f → Split n itself s (f vs) → Split n itself s (known_or o vs m)
  unfolding known_or
  refill_known n o f vs m s e h = subst (λ z. Split n itself s (known_or z vs m)) (sym e) h

  refill_splits : (deep n : ℕ) (vs : List Value) → Split n itself (p_refill h.ration deep) (helper_calls deep h t input refill_name vs)
  unfolding p_refill helper_calls refill give ◌>>=◌ after
  refill_splits zero n vs = record { follows = λ st objects l. tt }
  refill_splits (suc deep) n vs =
      refill_known n (h.known refill_name) (λ us. refill h.ration >>= λ _. give Missing) vs _ (p_refill h.ration (suc deep)) (known refill_name) (record { follows = λ st objects l. (refl, l) })

-- ---- all of them

unfoldable pub p_formats : ℕ → List ℕ → ℕ → List ℕ → List Value → Part Value
p_formats ration letters deep name vs =
    if bytes_eq name refill_name then p_refill ration deep
    else if bytes_eq name print_signed.name then p_choose (has_letter letters 100) (p_signed deep vs) p_stuck
    else if bytes_eq name print_unsigned.name then p_choose (has_letter letters 117) (p_number 10 7 deep vs) p_stuck
    else if bytes_eq name print_hex.name then p_choose (has_letter letters 120) (p_number 16 5 deep vs) p_stuck
    else if bytes_eq name print_string.name then p_choose (has_letter letters 115) (p_string ration deep vs) p_stuck
    else p_known ration deep name vs

by_name : (n : ℕ) (name this : List ℕ) (vs : List Value) (calls : List ℕ → List Value → Run Value) (s u : Part Value) → Split n itself s (calls this vs) → Split n itself u (calls name vs) → Split n itself (if bytes_eq name this then s else u) (calls name vs)
by_name n name this vs calls s u h k = go (bytes_eq name this) refl
  where
    go : (b : Bool) → bytes_eq name this ≡ b → Split n itself (if b then s else u) (calls name vs)
    go true e = subst (λ z. Split n itself s (calls z vs)) (sym ((bytes_eq-Decides name this).0 e)) h
    go false e = k

where_true : (n : ℕ) (s : Part Value) (m : Run Value) (b : Bool) → (b ≡ true → Split n itself s m) → Split n itself (p_choose b s p_stuck) m
unfolding p_choose
where_true n s m true h = h refl
where_true n s m false h = stuck_splits

module _ (h : Helpers) (t : Text) (input : List ℕ) (some : 1 ≤ h.ration) (known : Known h) (format letters : List ℕ) (own : HasFormat h t format letters) where
  pub formats_splits : (deep n : ℕ) (name : List ℕ) (vs : List Value) → Split n itself (p_formats h.ration letters deep name vs) (helper_calls deep h t input name vs)
  unfolding p_formats
  formats_splits deep n name vs =
      by_name n name refill_name vs (helper_calls deep h t input) _ _ (refill_splits h t input known deep n vs)
      (by_name n name print_signed.name vs (helper_calls deep h t input) _ _ (where_true n (p_signed deep vs) _ (has_letter letters 100) (λ e. let s = own.signed e in signed_splits h t input s.0 s.1 s.2 deep n vs))
      (by_name n name print_unsigned.name vs (helper_calls deep h t input) _ _
      (where_true n (p_number 10 7 deep vs) _ (has_letter letters 117) (λ e. let u = own.unsigned e in number_splits h t input u.0 print_unsigned.name 10 7 print_unsigned.kinds (omega arith) (omega arith) (omega arith) (omega arith) u.1.0 u.1.1 deep n vs))
      (by_name n name print_hex.name vs (helper_calls deep h t input) _ _
      (where_true n (p_number 16 5 deep vs) _ (has_letter letters 120) (λ e. let u = own.hex e in number_splits h t input u.0 print_hex.name 16 5 print_hex.kinds (omega arith) (omega arith) (omega arith) (omega arith) u.1.0 u.1.1 deep n vs))
      (by_name n name print_string.name vs (helper_calls deep h t input) _ _ (where_true n (p_string h.ration deep vs) _ (has_letter letters 115) (λ e. string_splits h t input some known (own.string e).0 deep n vs)) (known_splits h t input known deep n name vs)))))
