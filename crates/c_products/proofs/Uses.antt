-- A use of the function of sums is the sum, and so is a call of it by another helper function.
use Rattle.std.proofs.Common.{◌≡◌, ℕ, zero, suc, ◌+◌, ◌-◌, ◌*◌, ◌%◌, ◌^◌, ◌<◌, ◌≤◌, List, [], ◌∷◌, ◌++◌, length, Option, Some, None, Bool, true, false, cond, nat_le, nat_lt, slice_get, refl, ap, ap₂, ◌∙◌, subst, arith}
use Rattle.std.specs.Prelude.{ℤ, ◌*ℤ◌, unsigned_abs, ◌&&◌}
use Rattle.std.specs.Option.{option_map}
use Rattle.std.proofs.lemmas.Bool.{lt-ltb, ltb-true, leb-true, and_parts}
use Rattle.word24.specs.Word.{signed_of}
use Rattle.c_types.specs.Types as type
use Rattle.c_types.specs.Constants.{counted}
use Rattle.c_eval.specs.State.{Value, Word, Null, Point, Letter, Function, Missing, Object, State, OtherKind, PointerArithmetic, Gives, Undefined, Run}
use Rattle.c_eval.specs.Run.{unless, give, undefined, ◌>>=◌, after, objects_now, paid, spend_spare}
use Rattle.c_eval.specs.Memory.{is_within, offset_by, extent_of, at_offset, moved}
use Rattle.c_eval.specs.Operators.{of_word}
use Rattle.c_eval.specs.Text.{Text, function_named}
use Rattle.c_eval.specs.Helpers.{Helpers, leaving, behind_use, helped, helper_runs, known_or, helper_calls, use_depth, helps_to}
use Rattle.c_helpers.specs.Functions.{product}
use Rattle.c_helpers.specs.Meanings as means
use Rattle.c_helpers.specs.Meanings.{Action, of_three}
use Rattle.c_apart.proofs.Apart.{Done, Stuck, Part, p_stuck, p_function}
use Rattle.c_apart.proofs.Splitting.{Joins, Split, joined, itself, stuck_splits}
use Rattle.c_apart.proofs.Uses.{Apart, call_apart, use_of, use_gives, use_undefined}
use Rattle.c_products.specs.Found.{Stands}
use Rattle.c_products.proofs.Nested.{within_depth, on_words_nested}
use Rattle.c_products.proofs.Computed.{are_words}
use Rattle.c_products.proofs.IntQuotient.{one_nested}
use Rattle.c_products.proofs.Whole.{product_words}
use Rattle.c_valid.specs.Valid.{IsValid, AreValid, StateIsValid}
use Rattle.c_products.specs.MovesFound.{definition, sum_function, sum_parameters}
use Rattle.c_products.specs.MovesLaws.{HasSum}
use Rattle.c_products.proofs.Cells.{cells_of, same_cells}
use Rattle.c_products.proofs.Sums.{product_part, point_runs, letter_runs}

pub words_are : (x y : ℕ) → x < 2 ^ 24 → y < 2 ^ 24 → are_words x y ≡ true
words_are x y sx sy = ap₂ (λ a b. a && b) (lt-ltb x (2 ^ 24) sx) (lt-ltb y (2 ^ 24) sy)

-- a pointer stays in its object or at its end
abbrev pub stays : State → Value → ℕ → ℕ → Bool
stays st p x k = is_within (offset_by p (cells_of x k)) (extent_of st.objects p)

-- where it comes to
abbrev pub sum_of : Value → ℕ → ℕ → Value
sum_of p x k = at_offset p (unsigned_abs (offset_by p (cells_of x k)))

-- what can be told of a call of the function of sums by another helper function
unfoldable pub may_sum : ℕ → State → Value → ℕ → ℕ → Bool
may_sum deep st p x k = are_words x k && nat_lt 26 deep && nat_le 26 st.spare && nat_le (st.words + 32) 1024 && stays st p x k

unfoldable pub p_sum : ℕ → Value → ℕ → ℕ → Part Value
p_sum deep p x k st own = cond (may_sum deep st p x k) (Done (sum_of p x k) (record st { spare = st.spare - 26 }) own) Stuck

unfoldable pub p_summed : ℕ → List Value → Part Value
p_summed deep (p ∷ Word x ∷ Word k ∷ []) = p_sum deep p x k
p_summed deep _ = p_stuck

module _ (h : Helpers) (t : Text) (input : List ℕ) (unsigned : Bool) (s : Stands h t type.Int product) (own : HasSum h t unsigned) where
  abbrev name : List ℕ
  name = (sum_function unsigned).name

  abbrev part : ℕ → List ℕ → List Value → Part Value
  part deep = product_part (within_depth are_words (λ x y. 24) deep)

  abbrev body : ℕ → Value → ℕ → ℕ → Run Value
  body deep p x k = helper_runs h t input (helper_calls deep h t input) deep name (function_named t name) (p ∷ Word x ∷ Word k ∷ [])

  -- from a moment at which it stays in its object
  abbrev Sums : ℕ → Value → ℕ → ℕ → State → Type 0
  Sums deep p x k st = body deep p x k st ≡ Gives (sum_of p x k) (record st { spare = st.spare - 25 })

  runs_to : (deep : ℕ) (p : Value) (x k : ℕ) (st : State) → 25 < deep → 25 ≤ st.spare → st.words + 32 ≤ 1024 → x < 2 ^ 24 → k < 2 ^ 24 → stays st p x k ≡ true → Sums deep p x k st
  runs_to deep p x k st lt le small sx sk inside = by_shape p inside
    where
      st1 : State
      st1 = record st { words = st.words + h.charge name }

      good : within_depth are_words (λ x y. 24) deep x k ≡ true
      good = ap₂ (λ a b. a && b) (words_are x k sx sk) (lt-ltb 25 deep lt)

      few : st.words + h.charge name + 16 ≤ 1024
      few = omega (arith, small, own.0.charge)

      cut : (q : Value) (objects : List Object) → p_function (definition (type.Pointer type.Void) (sum_parameters unsigned) (sum_function unsigned) own.0.tags own.0.names own.0.defined) deep (part deep) (q ∷ Word x ∷ Word k ∷ []) st1 [] ≡ Done (sum_of q x k) (record st1 { spare = st1.spare - 25 }) objects → Sums deep q x k st
      cut q objects e =
          ap (λ z. helper_runs h t input (helper_calls deep h t input) deep name z (q ∷ Word x ∷ Word k ∷ []) st) own.0.found
          ∙ subst (λ z. Apart z st.words (helper_runs h t input (helper_calls deep h t input) deep name (Some (definition (type.Pointer type.Void) (sum_parameters unsigned) (sum_function unsigned) own.0.tags own.0.names own.0.defined)) (q ∷ Word x ∷ Word k ∷ []) st)) e
          (call_apart h t input deep (helper_calls deep h t input) (part deep) name (definition (type.Pointer type.Void) (sum_parameters unsigned) (sum_function unsigned) own.0.tags own.0.names own.0.defined) (q ∷ Word x ∷ Word k ∷ []) st
          (λ g us. one_nested _ product.name _ (helper_calls deep h t input) (on_words_nested h t input product.name are_words (λ x y. 24) 24 16 (λ x y. x * y % 2 ^ 24) (product_words h t input s) s.unknown deep _) g us) (omega (arith, small, own.0.charge)))

      by_shape : (q : Value) → stays st q x k ≡ true → Sums deep q x k st
      by_shape (Point o i) e = cut (Point o i) _ (point_runs unsigned own.0.tags own.0.names own.0.defined deep o i x k (within_depth are_words (λ x y. 24) deep) st1 own.1.0 own.1.1 good le few e)
      by_shape (Letter f j text i) e = cut (Letter f j text i) _ (letter_runs unsigned own.0.tags own.0.names own.0.defined deep f j text i x k (within_depth are_words (λ x y. 24) deep) st1 own.1.0 own.1.1 good le few e)
      by_shape (Word n) e = absurd (cc e)
      by_shape Null e = absurd (cc e)
      by_shape (Function f) e = absurd (cc e)
      by_shape Missing e = absurd (cc e)

  -- ---- the use

  use_is : (p : Value) (x k : ℕ) (st : State) → 2 ^ 9 ≤ h.ration → x < 2 ^ 24 → k < 2 ^ 24 → stays st p x k ≡ true → use_of h t input name (p ∷ Word x ∷ Word k ∷ []) st ≡ Gives (sum_of p x k) st
  unfolding helped leaving
  use_is p x k st enough sx sk inside =
      ap (leaving (behind_use st)) (runs_to (use_depth h.ration st.left) p x k (record st { spare = h.ration; words = 0 }) (omega (arith, enough, deep)) (omega (arith, enough)) (omega arith) sx sk inside)
    where
      deep : h.ration < use_depth h.ration st.left
      deep = omega arith

  abbrev action : Action
  action = of_three (means.pointer_sum unsigned)

  on_words : (p : Value) (x k : ℕ) (st : State) → 2 ^ 9 ≤ h.ration → IsValid p → x < 2 ^ 24 → k < 2 ^ 24 → StateIsValid st → (b : Bool) → is_within (offset_by p (counted unsigned x *ℤ signed_of k)) (extent_of st.objects p) ≡ b →
      helps_to h t input name action (p ∷ Word x ∷ Word k ∷ []) st ≡ action (p ∷ Word x ∷ Word k ∷ []) st
  unfolding of_three means.pointer_sum of_word moved objects_now ◌>>=◌ after unless give undefined
  on_words p x k st enough pv sx sk valid true inside =
      let same : cells_of x k ≡ counted unsigned x *ℤ signed_of k = same_cells unsigned st.objects p x k valid pv sx sk inside in
      use_gives h t input name (p ∷ Word x ∷ Word k ∷ []) action st st (at_offset p (unsigned_abs (offset_by p (counted unsigned x *ℤ signed_of k)))) (rw inside refl)
      (use_is p x k st enough sx sk (ap (λ z. is_within (offset_by p z) (extent_of st.objects p)) same ∙ inside) ∙ ap (λ z. Gives (at_offset p (unsigned_abs (offset_by p z))) st) same)
  on_words p x k st enough pv sx sk valid false e = use_undefined h t input name (p ∷ Word x ∷ Word k ∷ []) action st st PointerArithmetic (rw e refl)

  no_words : (vs : List Value) (st : State) → action vs st ≡ Undefined OtherKind st → helps_to h t input name action vs st ≡ action vs st
  no_words vs st e = use_undefined h t input name vs action st st OtherKind e

  pub sums : 2 ^ 9 ≤ h.ration → (vs : List Value) (st : State) → AreValid vs → StateIsValid st → helps_to h t input name action vs st ≡ action vs st
  unfolding of_three means.pointer_sum of_word undefined
  sums enough [] st valid sv = no_words [] st refl
  sums enough (p ∷ []) st valid sv = no_words (p ∷ []) st refl
  sums enough (p ∷ x ∷ []) st valid sv = no_words (p ∷ x ∷ []) st refl
  sums enough (p ∷ x ∷ k ∷ z ∷ vs) st valid sv = no_words (p ∷ x ∷ k ∷ z ∷ vs) st refl
  sums enough (p ∷ Word x ∷ Word k ∷ []) st (pv, (sx, (sk, end))) sv = on_words p x k st enough pv sx sk sv (is_within (offset_by p (counted unsigned x *ℤ signed_of k)) (extent_of st.objects p)) refl
  sums enough (p ∷ Word x ∷ Null ∷ []) st valid sv = no_words _ st refl
  sums enough (p ∷ Word x ∷ Point o i ∷ []) st valid sv = no_words _ st refl
  sums enough (p ∷ Word x ∷ Letter f j text i ∷ []) st valid sv = no_words _ st refl
  sums enough (p ∷ Word x ∷ Function f ∷ []) st valid sv = no_words _ st refl
  sums enough (p ∷ Word x ∷ Missing ∷ []) st valid sv = no_words _ st refl
  sums enough (p ∷ Null ∷ k ∷ []) st valid sv = no_words _ st refl
  sums enough (p ∷ Point o i ∷ k ∷ []) st valid sv = no_words _ st refl
  sums enough (p ∷ Letter f j text i ∷ k ∷ []) st valid sv = no_words _ st refl
  sums enough (p ∷ Function f ∷ k ∷ []) st valid sv = no_words _ st refl
  sums enough (p ∷ Missing ∷ k ∷ []) st valid sv = no_words _ st refl

  -- ---- a call by another helper function

  paid_for : (deep : ℕ) (p : Value) (x k : ℕ) (st : State) (c : ℕ) → 25 < deep → st.spare ≡ c → 26 ≤ c → st.words + 32 ≤ 1024 → x < 2 ^ 24 → k < 2 ^ 24 → stays st p x k ≡ true →
      helper_calls (suc deep) h t input name (p ∷ Word x ∷ Word k ∷ []) st ≡ Gives (sum_of p x k) (record st { spare = st.spare - 26 })
  unfolding helper_calls known_or paid spend_spare
  paid_for deep p x k st zero lt e le small sx sk inside = absurd (omega (arith, le))
  paid_for deep p x k st (suc c) lt e le small sx sk inside =
      ap (λ z. known_or z (p ∷ Word x ∷ Word k ∷ []) (paid true (body deep p x k)) st) own.0.unknown
      ∙ (ap (λ z. spend_spare (body deep p x k) z st) e
      ∙ (runs_to deep p x k (record st { spare = c }) lt (omega (arith, le)) small sx sk inside ∙ ap (λ z. Gives (sum_of p x k) (record st { spare = z })) (omega (arith, e))))

  got_before : (xs ys : List Object) (o : ℕ) (x : Object) → slice_get xs o ≡ Some x → slice_get (xs ++ ys) o ≡ Some x
  got_before [] ys o x e = absurd (cc e)
  got_before (y ∷ xs) ys zero x e = e
  got_before (y ∷ xs) ys (suc o) x e = got_before xs ys o x e

  -- what stays in its object does so among more objects
  still : (xs ys : List Object) (p : Value) (z : ℤ) → is_within z (extent_of xs p) ≡ true → is_within z (extent_of (xs ++ ys) p) ≡ true
  still xs ys (Point o i) z e = by_object (slice_get xs o) refl e
    where
      by_object : (x : Option Object) → slice_get xs o ≡ x → is_within z (option_map (λ x. length x.cells) x) ≡ true → is_within z (extent_of (xs ++ ys) (Point o i)) ≡ true
      by_object None f e = absurd (cc e)
      by_object (Some x) f e = ap (λ x. is_within z (option_map (λ x. length x.cells) x)) (got_before xs ys o x f) ∙ e
  still xs ys (Letter f j text i) z e = e
  still xs ys (Word n) z e = absurd (cc e)
  still xs ys Null z e = absurd (cc e)
  still xs ys (Function f) z e = absurd (cc e)
  still xs ys Missing z e = absurd (cc e)

  sum_splits : (deep n : ℕ) (p : Value) (x k : ℕ) → Split n itself (p_sum deep p x k) (helper_calls deep h t input name (p ∷ Word x ∷ Word k ∷ []))
  unfolding p_sum may_sum
  sum_splits zero n p x k = record { follows = λ st objects l. go st objects (may_sum zero st p x k) refl }
    where
      go : (st : State) (objects : List Object) (b : Bool) → may_sum zero st p x k ≡ b → Joins n itself (cond b (Done (sum_of p x k) (record st { spare = st.spare - 26 }) objects) Stuck) (helper_calls zero h t input name (p ∷ Word x ∷ Word k ∷ []) (joined st objects))
      go st objects true e =
          let a = and_parts (are_words x k && nat_lt 26 zero && nat_le 26 st.spare && nat_le (st.words + 32) 1024) (stays st p x k) e in
          let b = and_parts (are_words x k && nat_lt 26 zero && nat_le 26 st.spare) (nat_le (st.words + 32) 1024) a.0 in
          let c = and_parts (are_words x k && nat_lt 26 zero) (nat_le 26 st.spare) b.0 in
          absurd (cc (and_parts (are_words x k) (nat_lt 26 zero) c.0).1)
      go st objects false e = tt
  sum_splits (suc deep) n p x k = record { follows = λ st objects l. go st objects l (may_sum (suc deep) st p x k) refl }
    where
      go : (st : State) (objects : List Object) → length st.objects ≡ n → (b : Bool) → may_sum (suc deep) st p x k ≡ b → Joins n itself (cond b (Done (sum_of p x k) (record st { spare = st.spare - 26 }) objects) Stuck) (helper_calls (suc deep) h t input name (p ∷ Word x ∷ Word k ∷ []) (joined st objects))
      go st objects l true e =
          let a = and_parts (are_words x k && nat_lt 26 (suc deep) && nat_le 26 st.spare && nat_le (st.words + 32) 1024) (stays st p x k) e in
          let b = and_parts (are_words x k && nat_lt 26 (suc deep) && nat_le 26 st.spare) (nat_le (st.words + 32) 1024) a.0 in
          let c = and_parts (are_words x k && nat_lt 26 (suc deep)) (nat_le 26 st.spare) b.0 in
          let d = and_parts (are_words x k) (nat_lt 26 (suc deep)) c.0 in
          let w = and_parts (nat_lt x (2 ^ 24)) (nat_lt k (2 ^ 24)) d.0 in
          let lt : 26 < suc deep = ltb-true 26 (suc deep) d.1 in
          (paid_for deep p x k (joined st objects) st.spare (omega (arith, lt)) refl (leb-true 26 st.spare c.1) (leb-true (st.words + 32) 1024 b.1) (ltb-true x (2 ^ 24) w.0) (ltb-true k (2 ^ 24) w.1) (still st.objects objects p (offset_by p (cells_of x k)) a.1), l)
      go st objects l false e = tt

  pub summed_splits : (deep n : ℕ) (vs : List Value) → Split n itself (p_summed deep vs) (helper_calls deep h t input name vs)
  unfolding p_summed
  summed_splits deep n (p ∷ Word x ∷ Word k ∷ []) = sum_splits deep n p x k
  summed_splits deep n [] = stuck_splits
  summed_splits deep n (p ∷ []) = stuck_splits
  summed_splits deep n (p ∷ Word x ∷ []) = stuck_splits
  summed_splits deep n (p ∷ Word x ∷ Word k ∷ z ∷ vs) = stuck_splits
  summed_splits deep n (p ∷ Word x ∷ Null ∷ vs) = stuck_splits
  summed_splits deep n (p ∷ Word x ∷ Point o i ∷ vs) = stuck_splits
  summed_splits deep n (p ∷ Word x ∷ Letter f j text i ∷ vs) = stuck_splits
  summed_splits deep n (p ∷ Word x ∷ Function f ∷ vs) = stuck_splits
  summed_splits deep n (p ∷ Word x ∷ Missing ∷ vs) = stuck_splits
  summed_splits deep n (p ∷ Null ∷ vs) = stuck_splits
  summed_splits deep n (p ∷ Point o i ∷ vs) = stuck_splits
  summed_splits deep n (p ∷ Letter f j text i ∷ vs) = stuck_splits
  summed_splits deep n (p ∷ Function f ∷ vs) = stuck_splits
  summed_splits deep n (p ∷ Missing ∷ vs) = stuck_splits
