-- A use of the function of sums with the number first is the sum.
use Rattle.std.proofs.Common.{◌≡◌, ℕ, ◌^◌, ◌<◌, ◌≤◌, List, [], ◌∷◌, Bool, true, false, refl, ap, ◌∙◌}
use Rattle.std.specs.Prelude.{◌*ℤ◌, unsigned_abs}
use Rattle.word24.specs.Word.{signed_of}
use Rattle.c_types.specs.Types as type
use Rattle.c_types.specs.Constants.{counted}
use Rattle.c_eval.specs.State.{Value, Word, Null, Point, Letter, Function, Missing, State, OtherKind, PointerArithmetic, Gives, Undefined}
use Rattle.c_eval.specs.Run.{unless, give, undefined, ◌>>=◌, after, objects_now}
use Rattle.c_eval.specs.Memory.{is_within, offset_by, extent_of, at_offset, moved}
use Rattle.c_eval.specs.Operators.{of_word}
use Rattle.c_eval.specs.Text.{Text}
use Rattle.c_eval.specs.Helpers.{Helpers, helper_calls, use_depth, helps_to}
use Rattle.c_helpers.specs.Functions.{product}
use Rattle.c_helpers.specs.Meanings as means
use Rattle.c_helpers.specs.Meanings.{Action, of_three}
use Rattle.c_apart.proofs.Apart.{Part}
use Rattle.c_apart.proofs.Uses.{use_of, use_gives, use_undefined}
use Rattle.c_products.specs.Found.{Stands}
use Rattle.c_products.proofs.IntQuotient.{p_one, one_nested}
use Rattle.c_valid.specs.Valid.{IsValid, AreValid, StateIsValid}
use Rattle.c_products.specs.MovesFound.{Has, KnowsOf, definition, sum_name, sum_function, sum_parameters, swapped_function, swapped_parameters}
use Rattle.c_products.specs.MovesLaws.{HasSum}
use Rattle.c_products.proofs.Cells.{cells_of, same_cells}
use Rattle.c_products.proofs.Uses.{stays, sum_of, p_summed, summed_splits}
use Rattle.c_products.proofs.Using.{use_start, use_done, may_be}
use Rattle.c_products.proofs.Calls.{swapped_point_runs, swapped_letter_runs}

module _ (h : Helpers) (t : Text) (input : List ℕ) (unsigned : Bool) (enough : 2 ^ 9 ≤ h.ration) (s : Stands h t type.Int product) (sum : HasSum h t unsigned) (own : Has h t (type.Pointer type.Void) (swapped_parameters unsigned) (swapped_function unsigned))
    (known : KnowsOf own.names (type.Pointer type.Void) (sum_parameters unsigned) (sum_function unsigned)) where
  abbrev name : List ℕ
  name = (swapped_function unsigned).name

  use_is : (p : Value) (x k : ℕ) (st : State) → x < 2 ^ 24 → k < 2 ^ 24 → stays st p x k ≡ true → use_of h t input name (Word x ∷ p ∷ Word k ∷ []) st ≡ Gives (sum_of p x k) st
  use_is p x k st sx sk inside = by_shape p inside
    where
      deep : ℕ
      deep = use_depth h.ration st.left

      sub : List ℕ → List Value → Part Value
      sub = p_one (sum_name unsigned) (p_summed deep)

      by_shape : (q : Value) → stays st q x k ≡ true → use_of h t input name (Word x ∷ q ∷ Word k ∷ []) st ≡ Gives (sum_of q x k) st
      by_shape (Point o i) e =
          use_done h t input name (definition (type.Pointer type.Void) (swapped_parameters unsigned) (swapped_function unsigned) own.tags own.names own.defined) (Word x ∷ Point o i ∷ Word k ∷ []) st _ _ _ sub own.found own.charge
          (λ n g us. one_nested n (sum_name unsigned) _ (helper_calls deep h t input) (summed_splits h t input unsigned s sum deep n) g us)
          (swapped_point_runs unsigned own.tags own.names own.defined deep o i x k (use_start h name st) known (may_be h t input name st (Point o i) x k enough own.charge sx sk e))
      by_shape (Letter f j text i) e =
          use_done h t input name (definition (type.Pointer type.Void) (swapped_parameters unsigned) (swapped_function unsigned) own.tags own.names own.defined) (Word x ∷ Letter f j text i ∷ Word k ∷ []) st _ _ _ sub own.found own.charge
          (λ n g us. one_nested n (sum_name unsigned) _ (helper_calls deep h t input) (summed_splits h t input unsigned s sum deep n) g us)
          (swapped_letter_runs unsigned own.tags own.names own.defined deep f j text i x k (use_start h name st) known (may_be h t input name st (Letter f j text i) x k enough own.charge sx sk e))
      by_shape (Word n) e = absurd (cc e)
      by_shape Null e = absurd (cc e)
      by_shape (Function f) e = absurd (cc e)
      by_shape Missing e = absurd (cc e)

  abbrev action : Action
  action = of_three (means.swapped_sum unsigned)

  on_words : (p : Value) (x k : ℕ) (st : State) → IsValid p → x < 2 ^ 24 → k < 2 ^ 24 → StateIsValid st → (b : Bool) → is_within (offset_by p (counted unsigned x *ℤ signed_of k)) (extent_of st.objects p) ≡ b →
      helps_to h t input name action (Word x ∷ p ∷ Word k ∷ []) st ≡ action (Word x ∷ p ∷ Word k ∷ []) st
  unfolding of_three means.swapped_sum means.pointer_sum of_word moved objects_now ◌>>=◌ after unless give undefined
  on_words p x k st pv sx sk valid true inside =
      let same : cells_of x k ≡ counted unsigned x *ℤ signed_of k = same_cells unsigned st.objects p x k valid pv sx sk inside in
      use_gives h t input name (Word x ∷ p ∷ Word k ∷ []) action st st (at_offset p (unsigned_abs (offset_by p (counted unsigned x *ℤ signed_of k)))) (rw inside refl)
      (use_is p x k st sx sk (ap (λ z. is_within (offset_by p z) (extent_of st.objects p)) same ∙ inside) ∙ ap (λ z. Gives (at_offset p (unsigned_abs (offset_by p z))) st) same)
  on_words p x k st pv sx sk valid false e = use_undefined h t input name (Word x ∷ p ∷ Word k ∷ []) action st st PointerArithmetic (rw e refl)

  no_words : (vs : List Value) (st : State) → action vs st ≡ Undefined OtherKind st → helps_to h t input name action vs st ≡ action vs st
  no_words vs st e = use_undefined h t input name vs action st st OtherKind e

  pub swapped_sums : (vs : List Value) (st : State) → AreValid vs → StateIsValid st → helps_to h t input name action vs st ≡ action vs st
  unfolding of_three means.swapped_sum means.pointer_sum of_word undefined
  swapped_sums [] st valid sv = no_words [] st refl
  swapped_sums (x ∷ []) st valid sv = no_words (x ∷ []) st refl
  swapped_sums (x ∷ p ∷ []) st valid sv = no_words (x ∷ p ∷ []) st refl
  swapped_sums (x ∷ p ∷ k ∷ z ∷ vs) st valid sv = no_words (x ∷ p ∷ k ∷ z ∷ vs) st refl
  swapped_sums (Word x ∷ p ∷ Word k ∷ []) st (sx, (pv, (sk, end))) sv = on_words p x k st pv sx sk sv (is_within (offset_by p (counted unsigned x *ℤ signed_of k)) (extent_of st.objects p)) refl
  swapped_sums (Word x ∷ p ∷ Null ∷ []) st valid sv = no_words _ st refl
  swapped_sums (Word x ∷ p ∷ Point o i ∷ []) st valid sv = no_words _ st refl
  swapped_sums (Word x ∷ p ∷ Letter f j text i ∷ []) st valid sv = no_words _ st refl
  swapped_sums (Word x ∷ p ∷ Function f ∷ []) st valid sv = no_words _ st refl
  swapped_sums (Word x ∷ p ∷ Missing ∷ []) st valid sv = no_words _ st refl
  swapped_sums (Null ∷ p ∷ k ∷ []) st valid sv = no_words _ st refl
  swapped_sums (Point o i ∷ p ∷ k ∷ []) st valid sv = no_words _ st refl
  swapped_sums (Letter f j text i ∷ p ∷ k ∷ []) st valid sv = no_words _ st refl
  swapped_sums (Function f ∷ p ∷ k ∷ []) st valid sv = no_words _ st refl
  swapped_sums (Missing ∷ p ∷ k ∷ []) st valid sv = no_words _ st refl
