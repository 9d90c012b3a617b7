-- Uses of the functions that move a pointer in memory are what they stand for.
use Rattle.std.proofs.Common.{◌≡◌, ℕ, ◌^◌, ◌<◌, ◌≤◌, List, [], ◌∷◌, Option, Some, None, Bool, true, false, refl, ap, ◌∙◌, subst}
use Rattle.std.specs.Prelude.{◌*ℤ◌, unsigned_abs}
use Rattle.word24.specs.Word.{signed_of}
use Rattle.c_types.specs.Types as type
use Rattle.c_types.specs.Constants.{counted}
use Rattle.c_eval.specs.State.{Value, Word, Null, Point, Letter, Function, Missing, Cell, Unset, Holds, State, Act, OutsideObject, UnsetCell, OtherKind, LiteralWrite, PointerArithmetic, Gives, Undefined}
use Rattle.c_eval.specs.Run.{unless, give, undefined, ◌>>=◌, after, objects_now, with_objects}
use Rattle.c_eval.specs.Memory.{ObjectPointer, is_of, cell_at, is_within, offset_by, extent_of, at_offset, moved, read_cell, load, put_cell, write_cell, store}
use Rattle.c_eval.specs.Operators.{of_word}
use Rattle.c_eval.specs.Text.{Text}
use Rattle.c_eval.specs.Helpers.{Helpers, helper_calls, use_depth, helps_to}
use Rattle.c_helpers.specs.Functions.{product}
use Rattle.c_helpers.specs.Meanings as means
use Rattle.c_helpers.specs.Meanings.{Action, of_two, of_three}
use Rattle.c_apart.proofs.Apart.{Part}
use Rattle.c_apart.proofs.Uses.{use_of, use_gives, use_undefined}
use Rattle.c_products.specs.Found.{Stands}
use Rattle.c_products.proofs.IntQuotient.{p_one, one_nested}
use Rattle.c_valid.specs.Valid.{IsValid, AreValid, CellIsValid, StateIsValid}
use Rattle.c_valid.proofs.Objects.{IfSome, pointed_valid}
use Rattle.c_products.specs.MovesFound.{Has, KnowsOf, definition, sum_name, sum_function, sum_parameters, moving_function}
use Rattle.c_products.specs.MovesLaws.{HasSum}
use Rattle.c_products.proofs.Cells.{cells_of, same_cells}
use Rattle.c_products.proofs.Uses.{stays, sum_of, p_summed, summed_splits}
use Rattle.c_products.proofs.Using.{use_start, use_done, may_be}
use Rattle.c_products.proofs.Calls.{written, moving_point_runs, moving_letter_runs}

-- ---- what a pointer sum of words does

inside_sum : (unsigned : Bool) (p : Value) (x k : ℕ) (st : State) → is_within (offset_by p (counted unsigned x *ℤ signed_of k)) (extent_of st.objects p) ≡ true → means.pointer_sum unsigned p (Word x) (Word k) st ≡ Gives (at_offset p (unsigned_abs (offset_by p (counted unsigned x *ℤ signed_of k)))) st
unfolding means.pointer_sum of_word moved objects_now ◌>>=◌ after unless give
inside_sum unsigned p x k st e = rw e refl

outside_sum : (unsigned : Bool) (p : Value) (x k : ℕ) (st : State) → is_within (offset_by p (counted unsigned x *ℤ signed_of k)) (extent_of st.objects p) ≡ false → means.pointer_sum unsigned p (Word x) (Word k) st ≡ Undefined PointerArithmetic st
unfolding means.pointer_sum of_word moved objects_now ◌>>=◌ after unless undefined
outside_sum unsigned p x k st e = rw e refl

-- a valid cell's value
pub held : (p old : Value) (st : State) → StateIsValid st → IsValid p → cell_at st.objects p ≡ Some (Holds old) → IsValid old
held p old st sv pv e = let P : Option Cell → Type 0 = λ c. IfSome CellIsValid c in subst P e (pointed_valid st.objects p sv pv)

-- ---- the pointer is moved by a number

module _ (h : Helpers) (t : Text) (input : List ℕ) (unsigned : Bool) (enough : 2 ^ 9 ≤ h.ration) (s : Stands h t type.Int product) (sum : HasSum h t unsigned) (own : Has h t (type.Pointer type.Void) (sum_parameters unsigned) (moving_function unsigned))
    (known : KnowsOf own.names (type.Pointer type.Void) (sum_parameters unsigned) (sum_function unsigned)) where
  abbrev name : List ℕ
  name = (moving_function unsigned).name

  abbrev action : Action
  action = of_three (means.moving_sum unsigned)

  undefined_use : (p x k : Value) (st st1 : State) (act : Act) → action (p ∷ x ∷ k ∷ []) st ≡ Undefined act st1 → helps_to h t input name action (p ∷ x ∷ k ∷ []) st ≡ action (p ∷ x ∷ k ∷ []) st
  undefined_use p x k st st1 act e = use_undefined h t input name (p ∷ x ∷ k ∷ []) action st st1 act e

  nowhere : (p x k : Value) (st : State) → cell_at st.objects p ≡ None → action (p ∷ x ∷ k ∷ []) st ≡ Undefined OutsideObject st
  unfolding of_three means.moving_sum ◌>>=◌ after load read_cell undefined objects_now
  nowhere p x k st c = rw c refl

  unset : (p x k : Value) (st : State) → cell_at st.objects p ≡ Some Unset → action (p ∷ x ∷ k ∷ []) st ≡ Undefined UnsetCell st
  unfolding of_three means.moving_sum ◌>>=◌ after load read_cell undefined objects_now
  unset p x k st c = rw c refl

  no_pointer : (p x k w : Value) (st : State) → cell_at st.objects p ≡ Some (Holds w) → is_of ObjectPointer w ≡ false → action (p ∷ x ∷ k ∷ []) st ≡ Undefined OtherKind st
  unfolding of_three means.moving_sum ◌>>=◌ after load read_cell unless undefined objects_now
  no_pointer p x k w st c e = rw (c, e) refl

  fails_at : (p x k old : Value) (st : State) (act : Act) → cell_at st.objects p ≡ Some (Holds old) → is_of ObjectPointer old ≡ true → means.pointer_sum unsigned old x k st ≡ Undefined act st → action (p ∷ x ∷ k ∷ []) st ≡ Undefined act st
  unfolding of_three means.moving_sum ◌>>=◌ after load read_cell unless give objects_now
  fails_at p x k old st act c e g = rw (c, e, g) refl

  writes : (p x k old new : Value) (st : State) → cell_at st.objects p ≡ Some (Holds old) → is_of ObjectPointer old ≡ true → means.pointer_sum unsigned old x k st ≡ Gives new st → action (p ∷ x ∷ k ∷ []) st ≡ write_cell ObjectPointer (Some (Holds old)) st.objects p new st
  unfolding of_three means.moving_sum ◌>>=◌ after load read_cell unless give objects_now store
  writes p x k old new st c e g = rw (c, e, g, c) refl

  put_at : (o i : ℕ) (old new : Value) (st : State) → is_of ObjectPointer old ≡ true → write_cell ObjectPointer (Some (Holds old)) st.objects (Point o i) new st ≡ Gives new (record st { objects = written st o i new })
  unfolding write_cell unless put_cell with_objects ◌>>=◌ after give
  put_at o i old new st e = rw e refl

  put_letter : (f : Option (List ℕ)) (j : ℕ) (text : List ℕ) (i : ℕ) (old new : Value) (st : State) → is_of ObjectPointer old ≡ true → write_cell ObjectPointer (Some (Holds old)) st.objects (Letter f j text i) new st ≡ Undefined LiteralWrite st
  unfolding write_cell unless put_cell undefined
  put_letter f j text i old new st e = rw e refl

  use_is : (o i : ℕ) (old : Value) (x k : ℕ) (st : State) → cell_at st.objects (Point o i) ≡ Some (Holds old) → x < 2 ^ 24 → k < 2 ^ 24 → stays st old x k ≡ true → use_of h t input name (Point o i ∷ Word x ∷ Word k ∷ []) st ≡ Gives (sum_of old x k) (record st { objects = written st o i (sum_of old x k) })
  use_is o i old x k st cell sx sk inside = by_shape old cell inside
    where
      deep : ℕ
      deep = use_depth h.ration st.left

      sub : List ℕ → List Value → Part Value
      sub = p_one (sum_name unsigned) (p_summed deep)

      by_shape : (q : Value) → cell_at st.objects (Point o i) ≡ Some (Holds q) → stays st q x k ≡ true → use_of h t input name (Point o i ∷ Word x ∷ Word k ∷ []) st ≡ Gives (sum_of q x k) (record st { objects = written st o i (sum_of q x k) })
      by_shape (Point b j) c e =
          use_done h t input name (definition (type.Pointer type.Void) (sum_parameters unsigned) (moving_function unsigned) own.tags own.names own.defined) (Point o i ∷ Word x ∷ Word k ∷ []) st _ _ _ sub own.found own.charge
          (λ n g us. one_nested n (sum_name unsigned) _ (helper_calls deep h t input) (summed_splits h t input unsigned s sum deep n) g us)
          (moving_point_runs unsigned own.tags own.names own.defined deep o i b j x k (use_start h name st) known c (may_be h t input name st (Point b j) x k enough own.charge sx sk e))
      by_shape (Letter f m text j) c e =
          use_done h t input name (definition (type.Pointer type.Void) (sum_parameters unsigned) (moving_function unsigned) own.tags own.names own.defined) (Point o i ∷ Word x ∷ Word k ∷ []) st _ _ _ sub own.found own.charge
          (λ n g us. one_nested n (sum_name unsigned) _ (helper_calls deep h t input) (summed_splits h t input unsigned s sum deep n) g us)
          (moving_letter_runs unsigned own.tags own.names own.defined deep o i f m text j x k (use_start h name st) known c (may_be h t input name st (Letter f m text j) x k enough own.charge sx sk e))
      by_shape (Word n) c e = absurd (cc e)
      by_shape Null c e = absurd (cc e)
      by_shape (Function f) c e = absurd (cc e)
      by_shape Missing c e = absurd (cc e)

  -- an object pointer lies there
  on_cell : (p old : Value) (x k : ℕ) (st : State) → IsValid p → x < 2 ^ 24 → k < 2 ^ 24 → StateIsValid st → cell_at st.objects p ≡ Some (Holds old) → is_of ObjectPointer old ≡ true → (b : Bool) → is_within (offset_by old (counted unsigned x *ℤ signed_of k)) (extent_of st.objects old) ≡ b →
      helps_to h t input name action (p ∷ Word x ∷ Word k ∷ []) st ≡ action (p ∷ Word x ∷ Word k ∷ []) st
  on_cell p old x k st pv sx sk sv cell e false outside = undefined_use p (Word x) (Word k) st st PointerArithmetic (fails_at p (Word x) (Word k) old st PointerArithmetic cell e (outside_sum unsigned old x k st outside))
  on_cell (Point o i) old x k st pv sx sk sv cell e true inside =
      let same : cells_of x k ≡ counted unsigned x *ℤ signed_of k = same_cells unsigned st.objects old x k sv (held (Point o i) old st sv pv cell) sx sk inside in
      let new : Value = at_offset old (unsigned_abs (offset_by old (counted unsigned x *ℤ signed_of k))) in
      use_gives h t input name (Point o i ∷ Word x ∷ Word k ∷ []) action st (record st { objects = written st o i new }) new
      (writes (Point o i) (Word x) (Word k) old new st cell e (inside_sum unsigned old x k st inside) ∙ put_at o i old new st e)
      (use_is o i old x k st cell sx sk (ap (λ z. is_within (offset_by old z) (extent_of st.objects old)) same ∙ inside)
      ∙ ap (λ z. Gives (at_offset old (unsigned_abs (offset_by old z))) (record st { objects = written st o i (at_offset old (unsigned_abs (offset_by old z))) })) same)
  on_cell (Letter f j text i) old x k st pv sx sk sv cell e true inside =
      undefined_use (Letter f j text i) (Word x) (Word k) st st LiteralWrite (writes (Letter f j text i) (Word x) (Word k) old _ st cell e (inside_sum unsigned old x k st inside) ∙ put_letter f j text i old _ st e)
  on_cell (Word n) old x k st pv sx sk sv cell e true inside = absurd (cc cell)
  on_cell Null old x k st pv sx sk sv cell e true inside = absurd (cc cell)
  on_cell (Function f) old x k st pv sx sk sv cell e true inside = absurd (cc cell)
  on_cell Missing old x k st pv sx sk sv cell e true inside = absurd (cc cell)

  on_pointer : (p old x k : Value) (st : State) → IsValid p → IsValid x → IsValid k → StateIsValid st → cell_at st.objects p ≡ Some (Holds old) → is_of ObjectPointer old ≡ true →
      helps_to h t input name action (p ∷ x ∷ k ∷ []) st ≡ action (p ∷ x ∷ k ∷ []) st
  unfolding means.pointer_sum of_word undefined
  on_pointer p old (Word x) (Word k) st pv sx sk sv cell e = on_cell p old x k st pv sx sk sv cell e (is_within (offset_by old (counted unsigned x *ℤ signed_of k)) (extent_of st.objects old)) refl
  on_pointer p old (Word x) Null st pv sx sk sv cell e = undefined_use p (Word x) Null st st OtherKind (fails_at p _ _ old st OtherKind cell e refl)
  on_pointer p old (Word x) (Point o i) st pv sx sk sv cell e = undefined_use p (Word x) (Point o i) st st OtherKind (fails_at p _ _ old st OtherKind cell e refl)
  on_pointer p old (Word x) (Letter f j text i) st pv sx sk sv cell e = undefined_use p (Word x) (Letter f j text i) st st OtherKind (fails_at p _ _ old st OtherKind cell e refl)
  on_pointer p old (Word x) (Function f) st pv sx sk sv cell e = undefined_use p (Word x) (Function f) st st OtherKind (fails_at p _ _ old st OtherKind cell e refl)
  on_pointer p old (Word x) Missing st pv sx sk sv cell e = undefined_use p (Word x) Missing st st OtherKind (fails_at p _ _ old st OtherKind cell e refl)
  on_pointer p old Null k st pv sx sk sv cell e = undefined_use p Null k st st OtherKind (fails_at p _ _ old st OtherKind cell e refl)
  on_pointer p old (Point o i) k st pv sx sk sv cell e = undefined_use p (Point o i) k st st OtherKind (fails_at p _ _ old st OtherKind cell e refl)
  on_pointer p old (Letter f j text i) k st pv sx sk sv cell e = undefined_use p (Letter f j text i) k st st OtherKind (fails_at p _ _ old st OtherKind cell e refl)
  on_pointer p old (Function f) k st pv sx sk sv cell e = undefined_use p (Function f) k st st OtherKind (fails_at p _ _ old st OtherKind cell e refl)
  on_pointer p old Missing k st pv sx sk sv cell e = undefined_use p Missing k st st OtherKind (fails_at p _ _ old st OtherKind cell e refl)

  on_any : (p x k : Value) (st : State) → IsValid p → IsValid x → IsValid k → StateIsValid st → (c : Option Cell) → cell_at st.objects p ≡ c → helps_to h t input name action (p ∷ x ∷ k ∷ []) st ≡ action (p ∷ x ∷ k ∷ []) st
  on_any p x k st pv sx sk sv None e = undefined_use p x k st st OutsideObject (nowhere p x k st e)
  on_any p x k st pv sx sk sv (Some Unset) e = undefined_use p x k st st UnsetCell (unset p x k st e)
  on_any p x k st pv sx sk sv (Some (Holds Null)) e = on_pointer p Null x k st pv sx sk sv e refl
  on_any p x k st pv sx sk sv (Some (Holds (Point o i))) e = on_pointer p (Point o i) x k st pv sx sk sv e refl
  on_any p x k st pv sx sk sv (Some (Holds (Letter f j text i))) e = on_pointer p (Letter f j text i) x k st pv sx sk sv e refl
  on_any p x k st pv sx sk sv (Some (Holds (Word n))) e = undefined_use p x k st st OtherKind (no_pointer p x k (Word n) st e refl)
  on_any p x k st pv sx sk sv (Some (Holds (Function f))) e = undefined_use p x k st st OtherKind (no_pointer p x k (Function f) st e refl)
  on_any p x k st pv sx sk sv (Some (Holds Missing)) e = undefined_use p x k st st OtherKind (no_pointer p x k Missing st e refl)

  no_three : (vs : List Value) (st : State) → action vs st ≡ Undefined OtherKind st → helps_to h t input name action vs st ≡ action vs st
  no_three vs st e = use_undefined h t input name vs action st st OtherKind e

  pub moving_sums : (vs : List Value) (st : State) → AreValid vs → StateIsValid st → helps_to h t input name action vs st ≡ action vs st
  unfolding of_three undefined
  moving_sums [] st valid sv = no_three [] st refl
  moving_sums (p ∷ []) st valid sv = no_three (p ∷ []) st refl
  moving_sums (p ∷ x ∷ []) st valid sv = no_three (p ∷ x ∷ []) st refl
  moving_sums (p ∷ x ∷ k ∷ z ∷ vs) st valid sv = no_three (p ∷ x ∷ k ∷ z ∷ vs) st refl
  moving_sums (p ∷ x ∷ k ∷ []) st (pv, (sx, (sk, end))) sv = on_any p x k st pv sx sk sv (cell_at st.objects p) refl
