-- The trees of assignments and steps that move pointers to wide elements do what those do.
use Rattle.std.proofs.Common.{◌≡◌, ℕ, ◌-◌, ◌%◌, ◌^◌, ◌<◌, List, [], ◌∷◌, ◌++◌, Some, Bool, true, false, refl, sym, ap, ap₂, ◌∙◌, arith}
use Rattle.std.specs.Prelude.{◌||◌, ◌&&◌, ℤ, pos, neg_ℤ, codes, if◌then◌else◌}
use Rattle.std.specs.Str.{bytes_eq}
use Rattle.std.proofs.lemmas.Bool.{ltb-true}
use Rattle.word24.specs.Word.{signed_of}
use Rattle.c_syntax.specs.Plain.{CExpr}
use Rattle.c_syntax.specs.declared.tree.BinOp.{BinOp}
use Rattle.c_syntax.specs.declared.tree.BinOp.TheVariants as binary
use Rattle.c_types.specs.Types as type
use Rattle.c_types.specs.Types.{CType, CTypes, NoType, MoreType, Tags, is_pointer, is_null, is_unsigned, is_object_pointer, is_void, words_of}
use Rattle.c_types.specs.Expressions.{names_function}
use Rattle.c_types.specs.Room.{is_wide_pointer}
use Rattle.c_eval.specs.State.{Value, Word, State, Run}
use Rattle.c_eval.specs.Run.{◌>>=◌, give}
use Rattle.c_eval.specs.Memory.{ObjectPointer, kind_of, load, store, pointer_difference}
use Rattle.c_eval.specs.Operators as operators
use Rattle.c_eval.specs.Operators.{used, of_word, as_pointer, converted, all_converted, element_words, sum, difference, operated, assigned, updated}
use Rattle.c_types.specs.Constants.{wrapped}
use Rattle.c_eval.specs.Environment.{Environment, type_in, past}
use Rattle.c_eval.specs.Eval.{World, assignment, value_of, place_of}
use Rattle.c_valid.specs.Valid.{IsValid, StateIsValid}
use Rattle.c_valid.proofs.Keeping.{Keeps, bind_keeps}
use Rattle.c_valid.proofs.Objects.{load_keeps}
use Rattle.c_valid.proofs.Operators.{of_word_keeps, as_pointer_valid, used_keeps}
use Rattle.c_alike.specs.Alike.{EachName}
use Rattle.c_helpers.specs.Terms.{number}
use Rattle.c_helpers.specs.Fewer.{kind_word, helper_call, as_type, address_at, moved_place, words_by}
use Rattle.c_helpers.specs.Meanings.{of_three, pointer_sum, moving_sum, stands_for}
use Rattle.c_fewer_types.specs.Stands.{helper_type}
use Rattle.c_fewer_values.specs.Helping.{difference_name, Helps}
use Rattle.c_fewer_values.specs.Laws.{LeadsOn, PlaceLeadsOn, IsSum, PointersAreAssigned}
use Rattle.c_fewer_values.proofs.Runs.{bind_same, bind_each, pair_used, together, first_is}
use Rattle.c_fewer_values.proofs.Actions.{cells_by, sum_is, source_sum, source_less, word_in, word_back}
use Rattle.c_fewer_values.proofs.Operators.{plain_converted, number_used, cast_runs, three_run}
use Rattle.c_fewer_values.proofs.Places.{pointer_loads, pointer_stores, store_solid, object_kind, object_converted, IsPointed, moved_pointed}
use Rattle.c_fewer_values.proofs.Assignments.{addressed, assignment_so, updated_so}

-- ---- what is read and written

pub pointed_stored : (t : CType) (p v : Value) (st : State) → is_object_pointer t ≡ true → as_pointer v ≡ v → store ObjectPointer p v st ≡ assigned t p v st
unfolding assigned
pointed_stored t p v st e same = ap₂ (λ k r. store k p r st) (sym (object_kind t e)) (sym (object_converted t v e ∙ same))

pub cells_pointed : (unsigned : Bool) (p y : Value) (words : ℤ) → IsValid y → Keeps IsPointed (cells_by unsigned p y words)
cells_pointed unsigned p y words vy = of_word_keeps y vy (λ n c. moved_pointed p _)

moving_so : (unsigned : Bool) (p y : Value) (k : ℕ) → of_three (moving_sum unsigned) (p ∷ y ∷ Word k ∷ []) ≡ (load ObjectPointer p >>= λ old. pointer_sum unsigned old y (Word k) >>= λ new. store ObjectPointer p new)
unfolding of_three moving_sum
moving_so unsigned p y k = refl

-- the pointer at a place is moved, and what is used is what was written
moving_acts : (t : CType) (unsigned : Bool) (p y : Value) (k : ℕ) (words : ℤ) (source : Value → Run Value) (st : State) → is_object_pointer t ≡ true → signed_of k ≡ words → ((old : Value) (st : State) → source old st ≡ cells_by unsigned old y words st) → IsValid p → IsValid y → StateIsValid st
    → (of_three (moving_sum unsigned) (as_pointer p ∷ y ∷ Word k ∷ []) >>= used) st ≡ (load (kind_of t) p >>= λ x. source x >>= λ v. assigned t p v) st
moving_acts t unsigned p y k words source st e w same vp vy vs =
    ap (λ (m : Run Value). (m >>= used) st) (moving_so unsigned (as_pointer p) y k)
    ∙ (together (load ObjectPointer (as_pointer p)) (λ old. pointer_sum unsigned old y (Word k) >>= λ new. store ObjectPointer (as_pointer p) new) used st
    ∙ (first_is (load ObjectPointer (as_pointer p)) (load ObjectPointer p) (λ old. (pointer_sum unsigned old y (Word k) >>= λ new. store ObjectPointer (as_pointer p) new) >>= used) st (pointer_loads ObjectPointer p st)
    ∙ (bind_same IsValid (load ObjectPointer p) (λ old. (pointer_sum unsigned old y (Word k) >>= λ new. store ObjectPointer (as_pointer p) new) >>= used) (λ x. source x >>= λ v. assigned t p v) st (load_keeps ObjectPointer p vp) vs (λ old st vo vt. inner old st vt)
    ∙ ap (λ kind. (load kind p >>= λ x. source x >>= λ v. assigned t p v) st) (sym (object_kind t e)))))
  where
    inner : (old : Value) (st : State) → StateIsValid st → ((pointer_sum unsigned old y (Word k) >>= λ new. store ObjectPointer (as_pointer p) new) >>= used) st ≡ (source old >>= λ v. assigned t p v) st
    inner old st vt =
        together (pointer_sum unsigned old y (Word k)) (λ new. store ObjectPointer (as_pointer p) new) used st
        ∙ (ap (λ (m : Run Value). (m >>= λ new. store ObjectPointer (as_pointer p) new >>= used) st) (sum_is unsigned old y k ∙ ap (λ z. cells_by unsigned old y z) w)
        ∙ (bind_same IsPointed (cells_by unsigned old y words) (λ new. store ObjectPointer (as_pointer p) new >>= used) (λ v. assigned t p v) st (cells_pointed unsigned old y words vy) vt
        (λ new st g vu. (store_solid ObjectPointer (as_pointer p) new g.0).solid st ∙ (pointer_stores ObjectPointer p new st ∙ pointed_stored t p new st e g.1))
        ∙ first_is (cells_by unsigned old y words) (source old) (λ v. assigned t p v) st (sym (same old st))))

-- a sum or a difference with a number
pub added_by : (tags : Tags) (t u : CType) (y old : Value) (st : State) → is_pointer t ≡ true → operated tags binary.Add t u old y st ≡ cells_by (is_unsigned u) old y (pos (element_words tags t)) st
unfolding operated sum
added_by tags t u y old st e = ap (λ b. (if b then operators.pointer_sum tags t u old y else if is_pointer u then operators.pointer_sum tags u t y old else operators.on_words binary.Add t u old y) st) e ∙ ap (λ (m : Run Value). m st) (source_sum tags t u old y)

pub taken_by : (tags : Tags) (t u : CType) (y old : Value) (st : State) → is_pointer t ≡ true → is_pointer u ≡ false → operated tags binary.Sub t u old y st ≡ cells_by (is_unsigned u) old y (neg_ℤ (pos (element_words tags t))) st
unfolding operated difference
taken_by tags t u y old st e d =
    ap₂ (λ b c. (if b && c then (pointer_difference (element_words tags t) old y >>= λ z. give (Word (wrapped z))) else if b then operators.pointer_less tags t u old y else operators.on_words binary.Sub t u old y) st) e d
    ∙ source_less tags t u old y st

-- ---- the trees

module _ (w : World) (here : Environment) (at : ℕ) (a b : CExpr) (outer : w.inner ≡ false) (names : names_function here.scope a ≡ false) (left : PlaceLeadsOn w here a) (right : LeadsOn w (past a here) b) where
  abbrev P : List ℕ → Type 0
  P = Helps w here.scope

  abbrev A : Run Value
  A = place_of a w here

  abbrev B : Run Value
  B = value_of b w (past a here) >>= used

  a_keeps : Keeps IsValid A
  a_keeps = record { keeps = left }

  b_keeps : Keeps IsValid B
  b_keeps = bind_keeps {G = IsValid} {H = IsValid} (record { keeps = right }) used_keeps

  -- a pointer that a function moves
  moved_by : (name : List ℕ) (t q : CType) (unsigned : Bool) (n : ℕ) (words : ℤ) (source : Value → Value → Run Value) (st : State)
      → helper_type name ≡ Some (type.Function (type.Pointer type.Void) (MoreType (type.Pointer type.Void) (MoreType q (MoreType type.Int NoType)))) → stands_for name ≡ Some (of_three (moving_sum unsigned)) → bytes_eq name difference_name ≡ false → (is_pointer q || is_null q) ≡ false
      → P name → is_void (type_in here.scope (as_type at t (helper_call at name (address_at at a ∷ b ∷ number n ∷ [])))) ≡ false → is_object_pointer t ≡ true → signed_of (n % 2 ^ 24) ≡ words
      → ((y old : Value) (st : State) → source y old st ≡ cells_by unsigned old y words st) → StateIsValid st
      → value_of (as_type at t (helper_call at name (address_at at a ∷ b ∷ number n ∷ []))) w here st ≡ (A >>= λ p. B >>= λ y. load (kind_of t) p >>= λ x. source y x >>= λ v. assigned t p v) st
  moved_by name t q unsigned n words source st known stands other plain p void e k same v =
      let params : CTypes = MoreType (type.Pointer type.Void) (MoreType q (MoreType type.Int NoType)) in
      let whole : Value → Value → Run Value = λ x y. (give (Word (n % 2 ^ 24)) >>= used) >>= λ z. w.calls name (all_converted params (x ∷ y ∷ z ∷ [])) in
      cast_runs w here at t (helper_call at name (address_at at a ∷ b ∷ number n ∷ [])) st void
      ∙ (first_is (value_of (helper_call at name (address_at at a ∷ b ∷ number n ∷ [])) w here) ((value_of (address_at at a) w here >>= used) >>= λ x. B >>= λ y. whole x y) used st (three_run w here at name (type.Pointer type.Void) params (address_at at a) b n st known p)
      ∙ (first_is ((value_of (address_at at a) w here >>= used) >>= λ x. B >>= λ y. whole x y) (A >>= λ x. B >>= λ y. whole x y) used st (first_is (value_of (address_at at a) w here >>= used) A (λ x. B >>= λ y. whole x y) st (addressed w here at a st outer names))
      ∙ pair_used IsValid A B a_keeps b_keeps whole (λ p y. load (kind_of t) p >>= λ x. source y x >>= λ v. assigned t p v) st v
      (λ x y st vx vy vs.
      let words_are : converted q y ≡ y = plain_converted q y plain in
      first_is (whole x y) (of_three (moving_sum unsigned) (as_pointer x ∷ y ∷ Word (n % 2 ^ 24) ∷ [])) used st
      (number_used (n % 2 ^ 24) (λ z. w.calls name (all_converted params (x ∷ y ∷ z ∷ []))) st
      ∙ (ap (λ r. w.calls name (as_pointer x ∷ r ∷ Word (n % 2 ^ 24) ∷ []) st) words_are
      ∙ p.does (of_three (moving_sum unsigned)) stands other (as_pointer x ∷ y ∷ Word (n % 2 ^ 24) ∷ []) st (as_pointer_valid x vx, (vy, (few n, tt))) vs))
      ∙ moving_acts t unsigned x y (n % 2 ^ 24) words (source y) st e k (λ old st. same y old st) vx vy vs)))
    where
      few : (n : ℕ) → n % 2 ^ 24 < 2 ^ 24
      few n = omega arith

  pub moved_runs : (t : CType) (unsigned : Bool) (n : ℕ) (words : ℤ) (source : Value → Value → Run Value) (st : State) → P (codes "pointer += " ++ kind_word unsigned) → is_void (type_in here.scope (moved_place at t unsigned a b (number n))) ≡ false → is_object_pointer t ≡ true → signed_of (n % 2 ^ 24) ≡ words
      → ((y old : Value) (st : State) → source y old st ≡ cells_by unsigned old y words st) → StateIsValid st
      → value_of (moved_place at t unsigned a b (number n)) w here st ≡ (A >>= λ p. B >>= λ y. load (kind_of t) p >>= λ x. source y x >>= λ v. assigned t p v) st
  moved_runs t true n words source st p void e k same v = moved_by (codes "pointer += unsigned") t type.Unsigned true n words source st refl refl refl refl p void e k same v
  moved_runs t false n words source st p void e k same v = moved_by (codes "pointer += int") t type.Int false n words source st refl refl refl refl p void e k same v

  abbrev tags : Tags
  tags = here.scope.tags

  assigned_so : (op : BinOp) (t u : CType) (st : State) → (A >>= λ p. B >>= λ y. load (kind_of t) p >>= λ x. operated tags op t u x y >>= λ v. assigned t p v) st ≡ assignment w tags (Some op) t u A B st
  assigned_so op t u st = bind_each A _ _ st (λ p st. bind_each B _ _ st (λ y st. ap (λ (m : Run Value). m st) (sym (updated_so tags op t u p y)))) ∙ ap (λ (m : Run Value). m st) (sym (assignment_so w tags op t u A B))

  pub pointer_runs : (op : BinOp) (t u : CType) (st : State) → EachName P (moved_place at t (is_unsigned u) a b (words_by op tags t)) → IsSum op → is_pointer t ≡ true → is_object_pointer t ≡ true → is_pointer u ≡ false → 1 < element_words tags t → element_words tags t < 2 ^ 23
      → is_void (type_in here.scope (moved_place at t (is_unsigned u) a b (words_by op tags t))) ≡ false → StateIsValid st → value_of (moved_place at t (is_unsigned u) a b (words_by op tags t)) w here st ≡ assignment w tags (Some op) t u A B st
  pointer_runs binary.Add t u st p sum pointer e number some few void v =
      moved_runs t (is_unsigned u) (element_words tags t) (pos (element_words tags t)) (λ y x. operated tags binary.Add t u x y) st p.1.0 void e (word_in (element_words tags t) few) (λ y old st. added_by tags t u y old st pointer) v ∙ assigned_so binary.Add t u st
  pointer_runs binary.Sub t u st p sum pointer e number some few void v =
      moved_runs t (is_unsigned u) (2 ^ 24 - element_words tags t) (neg_ℤ (pos (element_words tags t))) (λ y x. operated tags binary.Sub t u x y) st p.1.0 void e (word_back (element_words tags t) some few) (λ y old st. taken_by tags t u y old st pointer number) v
      ∙ assigned_so binary.Sub t u st
  pointer_runs op t u st p sum pointer e number some few void v = absurd sum

pub wide_pointer : (tags : Tags) (t : CType) → is_wide_pointer tags t ≡ true → (is_pointer t ≡ true) × (1 < element_words tags t)
wide_pointer tags (type.Pointer t) e = (refl, ltb-true 1 (words_of tags t) e)
wide_pointer tags t e = absurd (cc e)

pub pointers_are_assigned : PointersAreAssigned
pointers_are_assigned w here at op t u a b st helps sum wide e number few outer names void left right v =
    let pointer = wide_pointer here.scope.tags t wide in
    pointer_runs w here at a b outer names left right op t u st helps sum pointer.0 e number pointer.1 few void v
