-- A use of the function of steps moves a pointer in memory and gives it as it was.
use Rattle.std.proofs.Common.{◌≡◌, ℕ, List, [], ◌∷◌, Option, Some, None, Bool, true, false, refl, ap, ◌∙◌, arith}
use Rattle.std.specs.Prelude.{pos, ◌*ℤ◌, unsigned_abs}
use Rattle.word24.specs.Word.{signed_of}
use Rattle.c_types.specs.Types as type
use Rattle.c_types.specs.Constants.{counted}
use Rattle.c_eval.specs.State.{Value, Word, Null, Point, Letter, Function, Missing, Cell, Unset, Holds, State, Act, OutsideObject, UnsetCell, OtherKind, LiteralWrite, PointerArithmetic, Gives, Undefined}
use Rattle.c_eval.specs.Run.{unless, give, undefined, ◌>>=◌, after, objects_now, with_objects}
use Rattle.c_eval.specs.Memory.{ObjectPointer, is_of, cell_at, is_within, offset_by, extent_of, at_offset, moved, read_cell, load, put_cell, write_cell, store}
use Rattle.c_eval.specs.Operators.{of_word}
use Rattle.c_eval.specs.Text.{Text}
use Rattle.c_eval.specs.Helpers.{Helpers, use_depth, helps_to}
use Rattle.c_helpers.specs.Functions.{pointer_step}
use Rattle.c_helpers.specs.Meanings as means
use Rattle.c_helpers.specs.Meanings.{Action, of_two}
use Rattle.c_apart.proofs.Apart.{nobody}
use Rattle.c_apart.proofs.Splitting.{stuck_splits}
use Rattle.c_apart.proofs.Uses.{use_of, use_gives, use_undefined}
use Rattle.c_products.specs.MovesFound.{Has, definition, step_parameters}
use Rattle.c_products.proofs.Using.{use_start, use_done}
use Rattle.c_products.proofs.Calls.{written, steps_by, step_of, step_point_runs, step_letter_runs}

-- one element is its words
one_element : (k : ℕ) → counted false 1 *ℤ signed_of k ≡ signed_of k *ℤ pos 1
one_element k = grind arith

inside_step : (p : Value) (k : ℕ) (st : State) → steps_by p k st ≡ true → means.pointer_sum false p (Word 1) (Word k) st ≡ Gives (step_of p k) st
unfolding means.pointer_sum of_word moved objects_now ◌>>=◌ after unless give
inside_step p k st e =
    let inside : is_within (offset_by p (counted false 1 *ℤ signed_of k)) (extent_of st.objects p) ≡ true = ap (λ z. is_within (offset_by p z) (extent_of st.objects p)) (one_element k) ∙ e in
    let gives : means.pointer_sum false p (Word 1) (Word k) st ≡ Gives (at_offset p (unsigned_abs (offset_by p (counted false 1 *ℤ signed_of k)))) st = rw inside refl in
    gives ∙ ap (λ z. Gives (at_offset p (unsigned_abs (offset_by p z))) st) (one_element k)

outside_step : (p : Value) (k : ℕ) (st : State) → steps_by p k st ≡ false → means.pointer_sum false p (Word 1) (Word k) st ≡ Undefined PointerArithmetic st
unfolding means.pointer_sum of_word moved objects_now ◌>>=◌ after unless undefined
outside_step p k st e =
    let outside : is_within (offset_by p (counted false 1 *ℤ signed_of k)) (extent_of st.objects p) ≡ false = ap (λ z. is_within (offset_by p z) (extent_of st.objects p)) (one_element k) ∙ e in
    rw outside refl

module _ (h : Helpers) (t : Text) (input : List ℕ) (own : Has h t (type.Pointer type.Void) step_parameters pointer_step) where
  abbrev name : List ℕ
  name = pointer_step.name

  abbrev action : Action
  action = of_two means.pointer_step

  undefined_use : (p k : Value) (st st1 : State) (act : Act) → action (p ∷ k ∷ []) st ≡ Undefined act st1 → helps_to h t input name action (p ∷ k ∷ []) st ≡ action (p ∷ k ∷ []) st
  undefined_use p k st st1 act e = use_undefined h t input name (p ∷ k ∷ []) action st st1 act e

  nowhere : (p k : Value) (st : State) → cell_at st.objects p ≡ None → action (p ∷ k ∷ []) st ≡ Undefined OutsideObject st
  unfolding of_two means.pointer_step ◌>>=◌ after load read_cell undefined objects_now
  nowhere p k st c = rw c refl

  unset : (p k : Value) (st : State) → cell_at st.objects p ≡ Some Unset → action (p ∷ k ∷ []) st ≡ Undefined UnsetCell st
  unfolding of_two means.pointer_step ◌>>=◌ after load read_cell undefined objects_now
  unset p k st c = rw c refl

  no_pointer : (p k w : Value) (st : State) → cell_at st.objects p ≡ Some (Holds w) → is_of ObjectPointer w ≡ false → action (p ∷ k ∷ []) st ≡ Undefined OtherKind st
  unfolding of_two means.pointer_step ◌>>=◌ after load read_cell unless undefined objects_now
  no_pointer p k w st c e = rw (c, e) refl

  fails_at : (p k old : Value) (st : State) (act : Act) → cell_at st.objects p ≡ Some (Holds old) → is_of ObjectPointer old ≡ true → means.pointer_sum false old (Word 1) k st ≡ Undefined act st → action (p ∷ k ∷ []) st ≡ Undefined act st
  unfolding of_two means.pointer_step ◌>>=◌ after load read_cell unless give objects_now
  fails_at p k old st act c e g = rw (c, e, g) refl

  writes_at : (o i : ℕ) (k old new : Value) (st : State) → cell_at st.objects (Point o i) ≡ Some (Holds old) → is_of ObjectPointer old ≡ true → means.pointer_sum false old (Word 1) k st ≡ Gives new st → action (Point o i ∷ k ∷ []) st ≡ Gives old (record st { objects = written st o i new })
  unfolding of_two means.pointer_step ◌>>=◌ after load read_cell unless give objects_now store write_cell put_cell with_objects
  writes_at o i k old new st c e g = rw (c, e, g, c, e) refl

  writes_letter : (f : Option (List ℕ)) (j : ℕ) (text : List ℕ) (i : ℕ) (k old new : Value) (st : State) → cell_at st.objects (Letter f j text i) ≡ Some (Holds old) → is_of ObjectPointer old ≡ true → means.pointer_sum false old (Word 1) k st ≡ Gives new st →
      action (Letter f j text i ∷ k ∷ []) st ≡ Undefined LiteralWrite st
  unfolding of_two means.pointer_step ◌>>=◌ after load read_cell unless give objects_now store write_cell put_cell undefined
  writes_letter f j text i k old new st c e g = rw (c, e, g) refl

  use_is : (o i : ℕ) (old : Value) (k : ℕ) (st : State) → cell_at st.objects (Point o i) ≡ Some (Holds old) → steps_by old k st ≡ true → use_of h t input name (Point o i ∷ Word k ∷ []) st ≡ Gives old (record st { objects = written st o i (step_of old k) })
  use_is o i (Point b j) k st cell inside =
      use_done h t input name (definition (type.Pointer type.Void) step_parameters pointer_step own.tags own.names own.defined) (Point o i ∷ Word k ∷ []) st _ _ _ nobody own.found own.charge (λ n g us. stuck_splits)
      (step_point_runs own.tags own.names own.defined (use_depth h.ration st.left) o i b j k nobody (use_start h name st) cell inside)
  use_is o i (Letter f m text j) k st cell inside =
      use_done h t input name (definition (type.Pointer type.Void) step_parameters pointer_step own.tags own.names own.defined) (Point o i ∷ Word k ∷ []) st _ _ _ nobody own.found own.charge (λ n g us. stuck_splits)
      (step_letter_runs own.tags own.names own.defined (use_depth h.ration st.left) o i f m text j k nobody (use_start h name st) cell inside)
  use_is o i (Word n) k st cell inside = absurd (cc inside)
  use_is o i Null k st cell inside = absurd (cc inside)
  use_is o i (Function f) k st cell inside = absurd (cc inside)
  use_is o i Missing k st cell inside = absurd (cc inside)

  on_cell : (p old : Value) (k : ℕ) (st : State) → cell_at st.objects p ≡ Some (Holds old) → is_of ObjectPointer old ≡ true → (b : Bool) → steps_by old k st ≡ b → helps_to h t input name action (p ∷ Word k ∷ []) st ≡ action (p ∷ Word k ∷ []) st
  on_cell p old k st cell e false outside = undefined_use p (Word k) st st PointerArithmetic (fails_at p (Word k) old st PointerArithmetic cell e (outside_step old k st outside))
  on_cell (Point o i) old k st cell e true inside =
      use_gives h t input name (Point o i ∷ Word k ∷ []) action st (record st { objects = written st o i (step_of old k) }) old (writes_at o i (Word k) old (step_of old k) st cell e (inside_step old k st inside)) (use_is o i old k st cell inside)
  on_cell (Letter f j text i) old k st cell e true inside = undefined_use (Letter f j text i) (Word k) st st LiteralWrite (writes_letter f j text i (Word k) old (step_of old k) st cell e (inside_step old k st inside))
  on_cell (Word n) old k st cell e true inside = absurd (cc cell)
  on_cell Null old k st cell e true inside = absurd (cc cell)
  on_cell (Function f) old k st cell e true inside = absurd (cc cell)
  on_cell Missing old k st cell e true inside = absurd (cc cell)

  on_pointer : (p old k : Value) (st : State) → cell_at st.objects p ≡ Some (Holds old) → is_of ObjectPointer old ≡ true → helps_to h t input name action (p ∷ k ∷ []) st ≡ action (p ∷ k ∷ []) st
  unfolding means.pointer_sum of_word undefined
  on_pointer p old (Word k) st cell e = on_cell p old k st cell e (steps_by old k st) refl
  on_pointer p old Null st cell e = undefined_use p Null st st OtherKind (fails_at p _ old st OtherKind cell e refl)
  on_pointer p old (Point o i) st cell e = undefined_use p (Point o i) st st OtherKind (fails_at p _ old st OtherKind cell e refl)
  on_pointer p old (Letter f j text i) st cell e = undefined_use p (Letter f j text i) st st OtherKind (fails_at p _ old st OtherKind cell e refl)
  on_pointer p old (Function f) st cell e = undefined_use p (Function f) st st OtherKind (fails_at p _ old st OtherKind cell e refl)
  on_pointer p old Missing st cell e = undefined_use p Missing st st OtherKind (fails_at p _ old st OtherKind cell e refl)

  on_any : (p k : Value) (st : State) → (c : Option Cell) → cell_at st.objects p ≡ c → helps_to h t input name action (p ∷ k ∷ []) st ≡ action (p ∷ k ∷ []) st
  on_any p k st None e = undefined_use p k st st OutsideObject (nowhere p k st e)
  on_any p k st (Some Unset) e = undefined_use p k st st UnsetCell (unset p k st e)
  on_any p k st (Some (Holds Null)) e = on_pointer p Null k st e refl
  on_any p k st (Some (Holds (Point o i))) e = on_pointer p (Point o i) k st e refl
  on_any p k st (Some (Holds (Letter f j text i))) e = on_pointer p (Letter f j text i) k st e refl
  on_any p k st (Some (Holds (Word n))) e = undefined_use p k st st OtherKind (no_pointer p k (Word n) st e refl)
  on_any p k st (Some (Holds (Function f))) e = undefined_use p k st st OtherKind (no_pointer p k (Function f) st e refl)
  on_any p k st (Some (Holds Missing)) e = undefined_use p k st st OtherKind (no_pointer p k Missing st e refl)

  no_two : (vs : List Value) (st : State) → action vs st ≡ Undefined OtherKind st → helps_to h t input name action vs st ≡ action vs st
  no_two vs st e = use_undefined h t input name vs action st st OtherKind e

  pub steps : (vs : List Value) (st : State) → helps_to h t input name action vs st ≡ action vs st
  unfolding of_two undefined
  steps [] st = no_two [] st refl
  steps (p ∷ []) st = no_two (p ∷ []) st refl
  steps (p ∷ k ∷ z ∷ vs) st = no_two (p ∷ k ∷ z ∷ vs) st refl
  steps (p ∷ k ∷ []) st = on_any p k st (cell_at st.objects p) refl
