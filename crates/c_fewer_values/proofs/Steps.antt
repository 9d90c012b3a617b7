-- The trees of steps of pointers to wide elements do what the steps do.
use Rattle.std.proofs.Common.{◌≡◌, ℕ, ◌-◌, ◌%◌, ◌^◌, ◌<◌, List, [], ◌∷◌, Option, Some, None, Bool, true, false, refl, sym, ap, ◌∙◌, subst, arith}
use Rattle.std.specs.Prelude.{ℤ, pos, neg_ℤ, codes}
use Rattle.word24.specs.Word.{signed_of}
use Rattle.c_syntax.specs.Plain.{CExpr}
use Rattle.c_syntax.specs.declared.tree.StepOp.{StepOp}
use Rattle.c_syntax.specs.declared.tree.StepOp.TheVariants as step
use Rattle.c_syntax.specs.declared.tree.BinOp.{BinOp}
use Rattle.c_syntax.specs.declared.tree.BinOp.TheVariants as binary
use Rattle.c_types.specs.Types as type
use Rattle.c_types.specs.Types.{CType, CTypes, NoType, MoreType, Tags, is_pointer, is_object_pointer, is_void}
use Rattle.c_types.specs.Expressions.{names_function}
use Rattle.c_eval.specs.State.{Act, OutsideObject, LiteralWrite, OtherKind, UnsetCell, Value, Word, Null, Point, Letter, Function, Missing, Cell, Unset, Holds, Object, State, Outcome, Gives, Ended, Going, Undefined, Run}
use Rattle.c_eval.specs.Run.{after, ◌>>=◌, give, undefined, unless, objects_now}
use Rattle.c_eval.specs.Memory.{Kind, ObjectPointer, kind_of, is_of, holds_no_other, cell_at, read_cell, load, put_cell, write_cell, store}
use Rattle.c_eval.specs.Operators.{used, as_pointer, all_converted, element_words, operated, assigned}
use Rattle.c_eval.specs.Environment.{Environment, type_in, past}
use Rattle.c_eval.specs.Eval.{World, stepped, step_op, step_value, value_of, place_of}
use Rattle.c_valid.specs.Valid.{IsValid, StateIsValid, IsKept}
use Rattle.c_valid.proofs.Keeping.{Keeps, bind_keeps, give_keeps, undefined_keeps, unless_keeps, objects_now_keeps}
use Rattle.c_valid.proofs.Objects.{load_keeps}
use Rattle.c_valid.proofs.Operators.{as_pointer_valid}
use Rattle.c_alike.specs.Alike.{EachName}
use Rattle.c_helpers.specs.Terms.{number}
use Rattle.c_helpers.specs.Fewer.{helper_call, as_type, address_at, moved_place, wide_step}
use Rattle.c_helpers.specs.Meanings.{of_two, pointer_sum, pointer_step}
use Rattle.c_fewer_values.specs.Helping.{Helps}
use Rattle.c_fewer_values.specs.Laws.{LeadsOn, PlaceLeadsOn, WideStepsAreTaken}
use Rattle.c_fewer_values.proofs.Runs.{bind_same, bind_each, together, first_is, give_on}
use Rattle.c_fewer_values.proofs.Actions.{cells_by, sum_is, word_in, word_back}
use Rattle.c_fewer_values.proofs.Operators.{number_used, cast_runs, two_run}
use Rattle.c_fewer_values.proofs.Places.{pointer_loads, pointer_stores, object_kind, Usable, IsPointed}
use Rattle.c_fewer_values.proofs.Assignments.{addressed}
use Rattle.c_fewer_values.proofs.Moves.{pointed_stored, cells_pointed, added_by, taken_by, moved_runs, wide_pointer}

-- ---- a write gives what was written

record GivesBack (v : Value) (m : Run Value) : Type 0 where
  back : (st : State) → (m >>= λ _. give v) st ≡ m st

undefined_back : (v : Value) (act : Act) → GivesBack v (undefined act)
unfolding ◌>>=◌ after undefined
undefined_back v act = record { back = λ st. refl }

give_back : (v : Value) → GivesBack v (give v)
unfolding ◌>>=◌ after give
give_back v = record { back = λ st. refl }

after_back : {A : Type 0} (v : Value) (r : Outcome A) (f : A → Run Value) → ((a : A) → GivesBack v (f a)) → after (after r f) (λ _. give v) ≡ after r f
unfolding after ◌>>=◌
after_back v (Gives a st) f h = (h a).back st
after_back v (Ended st) f h = refl
after_back v (Going st) f h = refl
after_back v (Undefined act st) f h = refl

bind_back : {A : Type 0} (v : Value) (m : Run A) (f : A → Run Value) → ((a : A) → GivesBack v (f a)) → GivesBack v (m >>= f)
unfolding ◌>>=◌
bind_back v m f h = record { back = λ st. after_back v (m st) f h }

unless_back : (v : Value) (b : Bool) (act : Act) (m : Run Value) → GivesBack v m → GivesBack v (unless b act m)
unfolding unless
unless_back v true act m h = h
unless_back v false act m h = undefined_back v act

put_back : (os : List Object) (p v : Value) → GivesBack v (put_cell os p v)
unfolding put_cell
put_back os (Point o k) v = bind_back v _ _ (λ u. give_back v)
put_back os (Letter f i text k) v = undefined_back v LiteralWrite
put_back os (Word n) v = undefined_back v OutsideObject
put_back os Null v = undefined_back v OutsideObject
put_back os (Function f) v = undefined_back v OutsideObject
put_back os Missing v = undefined_back v OutsideObject

write_back : (kind : Kind) (c : Option Cell) (os : List Object) (p v : Value) → GivesBack v (write_cell kind c os p v)
unfolding write_cell
write_back kind None os p v = undefined_back v OutsideObject
write_back kind (Some c) os p v = unless_back v (holds_no_other kind c) OtherKind _ (put_back os p v)

store_back : (kind : Kind) (p v : Value) → GivesBack v (store kind p v)
unfolding store
store_back kind p v = bind_back v objects_now _ (λ os. write_back kind (cell_at os p) os p v)

-- a pointer that was read can be used
pointer_usable : (v : Value) → is_of ObjectPointer v ≡ true → Usable v
unfolding used
pointer_usable Null e = refl
pointer_usable (Point o k) e = refl
pointer_usable (Letter f i text k) e = refl
pointer_usable (Word n) e = absurd (cc e)
pointer_usable (Function f) e = absurd (cc e)
pointer_usable Missing e = absurd (cc e)

read_usable : (c : Option Cell) → Keeps Usable (read_cell ObjectPointer c)
unfolding read_cell
read_usable None = undefined_keeps OutsideObject
read_usable (Some Unset) = undefined_keeps UnsetCell
read_usable (Some (Holds v)) = unless_keeps (is_of ObjectPointer v) OtherKind (λ e. give_keeps v (pointer_usable v e))

load_usable : (p : Value) → Keeps Usable (load ObjectPointer p)
unfolding load
load_usable p = bind_keeps objects_now_keeps (λ os valid. read_usable (cell_at os p))

keeps_by : (G : Value → Type 0) (m n : Run Value) → ((st : State) → m st ≡ n st) → Keeps G n → Keeps G m
keeps_by G m n e k = record { keeps = λ st v. subst (λ r. IsKept G r) (sym (e st)) (k.keeps st v) }

-- ---- steps

stepped_so : (w : World) (tags : Tags) (op : StepOp) (t : CType) (place : Run Value) → stepped w tags op t place ≡ (place >>= λ p. load (kind_of t) p >>= λ old. operated tags (step_op op) t type.Int old (Word 1) >>= λ new. assigned t p new >>= λ _. give (step_value op old new))
unfolding stepped
stepped_so w tags op t place = refl

number_leads : (w : World) (here : Environment) (n : ℕ) → LeadsOn w here (number n)
unfolding give
number_leads w here n st v = (few n, v)
  where
    few : (n : ℕ) → n % 2 ^ 24 < 2 ^ 24
    few n = omega arith

-- a step by a sum or a difference with 1
module _ (tags : Tags) (t : CType) (e : is_object_pointer t ≡ true) (op : BinOp) (words : ℤ) (by : (old : Value) (st : State) → operated tags op t type.Int old (Word 1) st ≡ cells_by false old (Word 1) words st) where
  next : Value → Run Value
  next old = operated tags op t type.Int old (Word 1)

  next_pointed : (old : Value) → Keeps IsPointed (operated tags op t type.Int old (Word 1))
  next_pointed old = keeps_by IsPointed (operated tags op t type.Int old (Word 1)) (cells_by false old (Word 1) words) (by old) (cells_pointed false old (Word 1) words (omega arith))

  -- the new value
  before : (p : Value) (st : State) → StateIsValid st → IsValid p
      → (load (kind_of t) p >>= λ x. operated tags op t type.Int x (Word 1) >>= λ v. assigned t p v) st ≡ (load (kind_of t) p >>= λ old. operated tags op t type.Int old (Word 1) >>= λ new. assigned t p new >>= λ _. give new) st
  before p st v vp =
      bind_same IsValid (load (kind_of t) p) _ _ st (load_keeps (kind_of t) p vp) v
      (λ old st vo vs. bind_same IsPointed (operated tags op t type.Int old (Word 1)) _ _ st (next_pointed old) vs
      (λ new st g vt. sym (pointed_stored t p new st e g.1) ∙ (sym ((store_back ObjectPointer p new).back st) ∙ first_is (store ObjectPointer p new) (assigned t p new) (λ _. give new) st (pointed_stored t p new st e g.1))))

  -- the old one
  behind : (k : ℕ) (p : Value) (st : State) → signed_of k ≡ words → kind_of t ≡ ObjectPointer → StateIsValid st → IsValid p
      → (of_two pointer_step (as_pointer p ∷ Word k ∷ []) >>= used) st ≡ (load (kind_of t) p >>= λ old. operated tags op t type.Int old (Word 1) >>= λ new. assigned t p new >>= λ _. give old) st
  unfolding of_two pointer_step
  behind k p st w kind v vp =
      together (load ObjectPointer (as_pointer p)) (λ old. pointer_sum false old (Word 1) (Word k) >>= λ new. store ObjectPointer (as_pointer p) new >>= λ _. give old) used st
      ∙ (first_is (load ObjectPointer (as_pointer p)) (load ObjectPointer p) (λ old. (pointer_sum false old (Word 1) (Word k) >>= λ new. store ObjectPointer (as_pointer p) new >>= λ _. give old) >>= used) st (pointer_loads ObjectPointer p st)
      ∙ (bind_same Usable (load ObjectPointer p) (λ old. (pointer_sum false old (Word 1) (Word k) >>= λ new. store ObjectPointer (as_pointer p) new >>= λ _. give old) >>= used) (λ old. operated tags op t type.Int old (Word 1) >>= λ new. assigned t p new >>= λ _. give old) st (load_usable p) v (λ old st uo vs. inner old st uo vs)
      ∙ ap (λ kind. (load kind p >>= λ old. operated tags op t type.Int old (Word 1) >>= λ new. assigned t p new >>= λ _. give old) st) (sym kind)))
    where
      inner : (old : Value) (st : State) → Usable old → StateIsValid st → ((pointer_sum false old (Word 1) (Word k) >>= λ new. store ObjectPointer (as_pointer p) new >>= λ _. give old) >>= used) st ≡ (operated tags op t type.Int old (Word 1) >>= λ new. assigned t p new >>= λ _. give old) st
      inner old st uo vs =
          together (pointer_sum false old (Word 1) (Word k)) (λ new. store ObjectPointer (as_pointer p) new >>= λ _. give old) used st
          ∙ (ap (λ (m : Run Value). (m >>= λ new. (store ObjectPointer (as_pointer p) new >>= λ _. give old) >>= used) st) (sum_is false old (Word 1) k ∙ ap (λ z. cells_by false old (Word 1) z) w)
          ∙ (first_is (cells_by false old (Word 1) words) (operated tags op t type.Int old (Word 1)) (λ new. (store ObjectPointer (as_pointer p) new >>= λ _. give old) >>= used) st (sym (by old st))
          ∙ bind_same IsPointed (operated tags op t type.Int old (Word 1)) (λ new. (store ObjectPointer (as_pointer p) new >>= λ _. give old) >>= used) (λ new. assigned t p new >>= λ _. give old) st (next_pointed old) vs
          (λ new st g vt.
          together (store ObjectPointer (as_pointer p) new) (λ _. give old) used st
          ∙ (first_is (store ObjectPointer (as_pointer p) new) (assigned t p new) (λ _. give old >>= used) st (pointer_stores ObjectPointer p new st ∙ pointed_stored t p new st e g.1)
          ∙ bind_each (assigned t p new) (λ _. give old >>= used) (λ _. give old) st (λ u st. give_on old used st ∙ ap (λ (m : Run Value). m st) uo)))))

-- ---- the trees

module _ (w : World) (here : Environment) (at : ℕ) (a : CExpr) (outer : w.inner ≡ false) (names : names_function here.scope a ≡ false) (left : PlaceLeadsOn w here a) (t : CType) (e : is_object_pointer t ≡ true) (pointer : is_pointer t ≡ true) (some : 1 < element_words here.scope.tags t) (few : element_words here.scope.tags t < 2 ^ 23) where
  abbrev tags : Tags
  tags = here.scope.tags

  abbrev P : List ℕ → Type 0
  P = Helps w here.scope

  abbrev A : Run Value
  A = place_of a w here

  a_keeps : Keeps IsValid A
  a_keeps = record { keeps = left }

  sum_by : (old : Value) (st : State) → operated tags binary.Add t type.Int old (Word 1) st ≡ cells_by false old (Word 1) (pos (element_words tags t)) st
  sum_by old st = added_by tags t type.Int (Word 1) old st pointer

  less_by : (old : Value) (st : State) → operated tags binary.Sub t type.Int old (Word 1) st ≡ cells_by false old (Word 1) (neg_ℤ (pos (element_words tags t))) st
  less_by old st = taken_by tags t type.Int (Word 1) old st pointer refl

  -- the new value is given
  before_runs : (op : BinOp) (n : ℕ) (words : ℤ) (st : State) → P (codes "pointer += int") → is_void (type_in here.scope (moved_place at t false a (number 1) (number n))) ≡ false → signed_of (n % 2 ^ 24) ≡ words
      → ((y old : Value) (st : State) → operated tags op t type.Int old y st ≡ cells_by false old y words st) → StateIsValid st
      → value_of (moved_place at t false a (number 1) (number n)) w here st ≡ (A >>= λ p. load (kind_of t) p >>= λ old. operated tags op t type.Int old (Word 1) >>= λ new. assigned t p new >>= λ _. give new) st
  before_runs op n words st p void k by v =
      moved_runs w here at a (number 1) outer names left (number_leads w (past a here) 1) t false n words (λ y x. operated tags op t type.Int x y) st p void e k by v
      ∙ bind_same IsValid A _ _ st a_keeps v
      (λ q st vq vs. number_used 1 (λ y. load (kind_of t) q >>= λ x. operated tags op t type.Int x y >>= λ z. assigned t q z) st ∙ before tags t e op words (λ old st. by (Word 1) old st) q st vs vq)

  abbrev params : CTypes
  params = MoreType (type.Pointer type.Void) (MoreType type.Int NoType)

  -- the old one is
  behind_runs : (op : BinOp) (n : ℕ) (words : ℤ) (st : State) → P (codes "pointer++") → is_void (type_in here.scope (as_type at t (helper_call at (codes "pointer++") (address_at at a ∷ number n ∷ [])))) ≡ false → signed_of (n % 2 ^ 24) ≡ words
      → ((old : Value) (st : State) → operated tags op t type.Int old (Word 1) st ≡ cells_by false old (Word 1) words st) → StateIsValid st
      → value_of (as_type at t (helper_call at (codes "pointer++") (address_at at a ∷ number n ∷ []))) w here st ≡ (A >>= λ p. load (kind_of t) p >>= λ old. operated tags op t type.Int old (Word 1) >>= λ new. assigned t p new >>= λ _. give old) st
  behind_runs op n words st p void k by v =
      let name : List ℕ = codes "pointer++" in
      let called : Value → Run Value = λ x. (give (Word (n % 2 ^ 24)) >>= used) >>= λ y. w.calls name (all_converted params (x ∷ y ∷ [])) in
      cast_runs w here at t (helper_call at name (address_at at a ∷ number n ∷ [])) st void
      ∙ (first_is (value_of (helper_call at name (address_at at a ∷ number n ∷ [])) w here) ((value_of (address_at at a) w here >>= used) >>= λ x. called x) used st (two_run w here at name (type.Pointer type.Void) params (address_at at a) (number n) st refl p)
      ∙ (first_is ((value_of (address_at at a) w here >>= used) >>= λ x. called x) (A >>= λ x. called x) used st (first_is (value_of (address_at at a) w here >>= used) A (λ x. called x) st (addressed w here at a st outer names))
      ∙ (together A (λ x. called x) used st
      ∙ bind_same IsValid A (λ x. called x >>= used) _ st a_keeps v
      (λ x st vx vs.
      first_is (called x) (of_two pointer_step (as_pointer x ∷ Word (n % 2 ^ 24) ∷ [])) used st
      (number_used (n % 2 ^ 24) (λ y. w.calls name (all_converted params (x ∷ y ∷ []))) st ∙ p.does (of_two pointer_step) refl refl (as_pointer x ∷ Word (n % 2 ^ 24) ∷ []) st (as_pointer_valid x vx, (small n, tt)) vs)
      ∙ behind tags t e op words by (n % 2 ^ 24) x st k (object_kind t e) vs vx))))
    where
      small : (n : ℕ) → n % 2 ^ 24 < 2 ^ 24
      small n = omega arith

  pub step_runs : (op : StepOp) (st : State) → EachName P (wide_step tags at op t a) → is_void (type_in here.scope (wide_step tags at op t a)) ≡ false → StateIsValid st → value_of (wide_step tags at op t a) w here st ≡ stepped w tags op t A st
  step_runs step.PreInc st p void v =
      before_runs binary.Add (element_words tags t) (pos (element_words tags t)) st p.1.0 void (word_in (element_words tags t) few) (λ y old st. added_by tags t type.Int y old st pointer) v ∙ ap (λ (m : Run Value). m st) (sym (stepped_so w tags step.PreInc t A))
  step_runs step.PreDec st p void v =
      before_runs binary.Sub (2 ^ 24 - element_words tags t) (neg_ℤ (pos (element_words tags t))) st p.1.0 void (word_back (element_words tags t) some few) (λ y old st. taken_by tags t type.Int y old st pointer refl) v ∙ ap (λ (m : Run Value). m st) (sym (stepped_so w tags step.PreDec t A))
  step_runs step.PostInc st p void v =
      behind_runs binary.Add (element_words tags t) (pos (element_words tags t)) st p.1.0 void (word_in (element_words tags t) few) sum_by v ∙ ap (λ (m : Run Value). m st) (sym (stepped_so w tags step.PostInc t A))
  step_runs step.PostDec st p void v =
      behind_runs binary.Sub (2 ^ 24 - element_words tags t) (neg_ℤ (pos (element_words tags t))) st p.1.0 void (word_back (element_words tags t) some few) less_by v ∙ ap (λ (m : Run Value). m st) (sym (stepped_so w tags step.PostDec t A))

pub wide_steps_are_taken : WideStepsAreTaken
wide_steps_are_taken w here at op t a st helps wide e few outer names void left v =
    let k = wide_pointer here.scope.tags t wide in
    step_runs w here at a outer names left t e k.0 k.1 few op st helps void v
