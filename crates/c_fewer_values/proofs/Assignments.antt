-- The tree of an assignment with an operator does what the assignment does.
use Rattle.std.proofs.Common.{◌≡◌, ℕ, List, [], ◌∷◌, ◌++◌, Some, Bool, true, false, refl, sym, ap, ap₂, ◌∙◌}
use Rattle.std.specs.Prelude.{codes, if◌then◌else◌}
use Rattle.c_syntax.specs.Plain.{CExpr}
use Rattle.c_syntax.specs.declared.tree.BinOp.{BinOp}
use Rattle.c_syntax.specs.declared.tree.BinOp.TheVariants as binary
use Rattle.c_types.specs.Types as type
use Rattle.c_types.specs.Types.{CType, CTypes, NoType, MoreType, Tags, is_arithmetic, is_pointer, is_unsigned, is_object_pointer, is_void}
use Rattle.c_types.specs.Expressions.{names_function}
use Rattle.c_eval.specs.State.{Value, State, Run}
use Rattle.c_eval.specs.Run.{◌>>=◌, give}
use Rattle.c_eval.specs.Memory.{Number, kind_of, load, store}
use Rattle.c_eval.specs.Operators.{used, as_pointer, all_converted, on_words, operated, pointer_to, assigned, updated}
use Rattle.c_eval.specs.Environment.{Environment, type_in, past}
use Rattle.c_eval.specs.Eval.{World, unary_value, assignment, value_of, place_of}
use Rattle.c_valid.specs.Valid.{IsValid, StateIsValid}
use Rattle.c_valid.proofs.Keeping.{Keeps, bind_keeps}
use Rattle.c_valid.proofs.Objects.{load_keeps}
use Rattle.c_valid.proofs.Operators.{as_pointer_valid, used_keeps}
use Rattle.c_alike.specs.Alike.{EachName}
use Rattle.c_helpers.specs.Fewer.{sign_of, counts_unsigned, helper_call, as_type, address_at}
use Rattle.c_helpers.specs.Meanings.{of_two, counting, compound, updating}
use Rattle.c_fewer_values.specs.Helping.{Helps}
use Rattle.c_fewer_values.specs.Laws.{LeadsOn, PlaceLeadsOn, NumbersAreAssigned}
use Rattle.c_fewer_values.proofs.Runs.{bind_same, bind_each, pair_used, together, first_is, give_on}
use Rattle.c_fewer_values.proofs.Actions.{Stands, sign_stands}
use Rattle.c_fewer_values.proofs.Operators.{plain_converted, cast_runs, two_run}
use Rattle.c_fewer_values.proofs.Places.{place_solid, pointer_loads, pointer_stores, store_solid, number_kind, number_plain, Usable, words_usable}

operated_so : (tags : Tags) (op : BinOp) (t u : CType) (x y : Value) (sign : List ℕ) (c : Bool) → sign_of op c ≡ Some sign → operated tags op t u x y ≡ on_words op t u x y
unfolding operated
operated_so tags binary.Mul t u x y sign c e = refl
operated_so tags binary.Div t u x y sign c e = refl
operated_so tags binary.Mod t u x y sign c e = refl
operated_so tags binary.BitAnd t u x y sign c e = refl
operated_so tags binary.BitOr t u x y sign c e = refl
operated_so tags binary.BitXor t u x y sign c e = refl
operated_so tags binary.Shl t u x y sign c e = refl
operated_so tags binary.Shr t u x y sign c e = refl
operated_so tags op t u x y sign c e = absurd (cc e)

-- ---- what the function of an assignment does at a place

stored : (t : CType) (p v : Value) (st : State) → is_arithmetic t ≡ true → store Number p v st ≡ assigned t p v st
unfolding assigned
stored t p v st e = ap₂ (λ k r. store k p r st) (sym (number_kind t e)) (sym (plain_converted t v (number_plain t e)))

-- from a value that was read
written : (tags : Tags) (op : BinOp) (t u : CType) (c : Bool) (p v y : Value) (st : State) → is_arithmetic t ≡ true → (on_words op (counting c) (counting c) v y ≡ on_words op t u v y) → operated tags op t u v y ≡ on_words op t u v y → IsValid v → IsValid y → StateIsValid st
    → ((on_words op (counting c) (counting c) v y >>= λ r. store Number (as_pointer p) r) >>= used) st ≡ (operated tags op t u v y >>= λ r. assigned t p r) st
written tags op t u c p v y st e same o vv vy vs =
    together (on_words op (counting c) (counting c) v y) (λ r. store Number (as_pointer p) r) used st
    ∙ (ap (λ (m : Run Value). (m >>= λ r. store Number (as_pointer p) r >>= used) st) same
    ∙ (bind_same Usable (on_words op t u v y) (λ r. store Number (as_pointer p) r >>= used) (λ r. assigned t p r) st (words_usable op t u v y vv vy) vs
    (λ r st ur vt. (store_solid Number (as_pointer p) r ur).solid st ∙ (pointer_stores Number p r st ∙ stored t p r st e))
    ∙ ap (λ (m : Run Value). (m >>= λ r. assigned t p r) st) (sym o)))

update_so : (op : BinOp) (c : Bool) (p y : Value) → of_two (updating op c) (p ∷ y ∷ []) ≡ (load Number p >>= λ x. on_words op (counting c) (counting c) x y >>= λ v. store Number p v)
unfolding of_two updating
update_so op c p y = refl

pub updated_so : (tags : Tags) (op : BinOp) (t u : CType) (p y : Value) → updated tags op t u p y ≡ (load (kind_of t) p >>= λ x. operated tags op t u x y >>= λ v. assigned t p v)
unfolding updated
updated_so tags op t u p y = refl

compound_acts : (tags : Tags) (op : BinOp) (t u : CType) (sign : List ℕ) (h : Stands op t u sign) (p y : Value) (st : State) → is_arithmetic t ≡ true → sign_of op (counts_unsigned op t u) ≡ Some sign → IsValid p → IsValid y → StateIsValid st
    → (compound op h.unsigned (as_pointer p ∷ y ∷ []) >>= used) st ≡ updated tags op t u p y st
compound_acts tags op t u sign h p y st e k vp vy vs =
    let c : Bool = h.unsigned in
    ap (λ (m : Run Value). (m >>= used) st) (update_so op c (as_pointer p) y)
    ∙ (together (load Number (as_pointer p)) (λ x. on_words op (counting c) (counting c) x y >>= λ v. store Number (as_pointer p) v) used st
    ∙ (first_is (load Number (as_pointer p)) (load Number p) (λ x. (on_words op (counting c) (counting c) x y >>= λ v. store Number (as_pointer p) v) >>= used) st (pointer_loads Number p st)
    ∙ (bind_same IsValid (load Number p) (λ x. (on_words op (counting c) (counting c) x y >>= λ v. store Number (as_pointer p) v) >>= used) (λ x. operated tags op t u x y >>= λ v. assigned t p v) st (load_keeps Number p vp) vs
    (λ x st vx vt. written tags op t u c p x y st e (h.words x y vx vy) (operated_so tags op t u x y sign (counts_unsigned op t u) k) vx vy vt)
    ∙ (ap (λ kind. (load kind p >>= λ x. operated tags op t u x y >>= λ v. assigned t p v) st) (sym (number_kind t e)) ∙ ap (λ (m : Run Value). m st) (sym (updated_so tags op t u p y))))))

pub assignment_so : (w : World) (tags : Tags) (op : BinOp) (t u : CType) (m n : Run Value) → assignment w tags (Some op) t u m n ≡ (m >>= λ p. n >>= λ y. updated tags op t u p y)
unfolding assignment
assignment_so w tags op t u m n = refl

give_used : (p : Value) (st : State) → (give p >>= used) st ≡ used p st
give_used p st = give_on p used st

pointed_to : (inner : Bool) (p : Value) (st : State) → inner ≡ false → (pointer_to inner p >>= used) st ≡ used p st
unfolding pointer_to
pointed_to false p st e = give_used p st
pointed_to true p st e = absurd (cc e)

-- ---- the trees

module _ (w : World) (here : Environment) where
  abbrev P : List ℕ → Type 0
  P = Helps w here.scope

  -- the address of a place is the place
  pub addressed : (at : ℕ) (a : CExpr) (st : State) → w.inner ≡ false → names_function here.scope a ≡ false → (value_of (address_at at a) w here >>= used) st ≡ place_of a w here st
  unfolding unary_value
  addressed at a st outer n =
      ap (λ b. ((if b then (value_of a w here >>= used) else (place_of a w here >>= pointer_to w.inner)) >>= used) st) n
      ∙ (together (place_of a w here) (pointer_to w.inner) used st
      ∙ (bind_each (place_of a w here) (λ p. pointer_to w.inner p >>= used) used st (λ p st. pointed_to w.inner p st outer) ∙ (place_solid a w here).solid st))

  module _ (at : ℕ) (a b : CExpr) (outer : w.inner ≡ false) (names : names_function here.scope a ≡ false) (left : PlaceLeadsOn w here a) (right : LeadsOn w (past a here) b) where
    abbrev A : Run Value
    A = place_of a w here

    abbrev B : Run Value
    B = value_of b w (past a here) >>= used

    a_keeps : Keeps IsValid A
    a_keeps = record { keeps = left }

    b_keeps : Keeps IsValid B
    b_keeps = bind_keeps {G = IsValid} {H = IsValid} (record { keeps = right }) used_keeps

    abbrev params : CTypes
    params = MoreType (type.Pointer type.Void) (MoreType type.Int NoType)

    pub compound_runs : (op : BinOp) (t u : CType) (sign : List ℕ) (st : State) → sign_of op (counts_unsigned op t u) ≡ Some sign → is_arithmetic t ≡ true → EachName P (as_type at t (helper_call at (sign ++ codes "=") (address_at at a ∷ b ∷ [])))
        → is_void (type_in here.scope (as_type at t (helper_call at (sign ++ codes "=") (address_at at a ∷ b ∷ [])))) ≡ false → StateIsValid st
        → value_of (as_type at t (helper_call at (sign ++ codes "=") (address_at at a ∷ b ∷ []))) w here st ≡ assignment w here.scope.tags (Some op) t u A B st
    compound_runs op t u sign st k e p void v =
        let h = sign_stands op t u (counts_unsigned op t u) sign refl k in
        let name : List ℕ = sign ++ codes "=" in
        let called : Value → Value → Run Value = λ x y. w.calls name (all_converted params (x ∷ y ∷ [])) in
        cast_runs w here at t (helper_call at name (address_at at a ∷ b ∷ [])) st void
        ∙ (first_is (value_of (helper_call at name (address_at at a ∷ b ∷ [])) w here) ((value_of (address_at at a) w here >>= used) >>= λ x. B >>= λ y. called x y) used st (two_run w here at name type.Int params (address_at at a) b st h.assigns p.1.0)
        ∙ (first_is ((value_of (address_at at a) w here >>= used) >>= λ x. B >>= λ y. called x y) (A >>= λ x. B >>= λ y. called x y) used st (first_is (value_of (address_at at a) w here >>= used) A (λ x. B >>= λ y. called x y) st (addressed at a st outer names))
        ∙ (pair_used IsValid A B a_keeps b_keeps called (λ x y. updated here.scope.tags op t u x y) st v
        (λ x y st vx vy vs.
        first_is (called x y) (compound op h.unsigned (as_pointer x ∷ y ∷ [])) used st (p.1.0.does (compound op h.unsigned) h.updates h.other_too (as_pointer x ∷ y ∷ []) st (as_pointer_valid x vx, (vy, tt)) vs)
        ∙ compound_acts here.scope.tags op t u sign h x y st e k vx vy vs)
        ∙ ap (λ (m : Run Value). m st) (sym (assignment_so w here.scope.tags op t u A B)))))

pub numbers_are_assigned : NumbersAreAssigned
numbers_are_assigned w here at op t u sign a b st helps k e outer names void left right v = compound_runs w here at a b outer names left right op t u sign st k e helps void v
