-- The tree of a binary operator does what the operator does.
use Rattle.std.proofs.Common.{◌≡◌, ℕ, ◌-◌, ◌%◌, ◌^◌, ◌<◌, List, [], ◌∷◌, ◌++◌, Option, Some, None, Bool, true, false, refl, sym, ap, ap₂, ◌∙◌, arith, add-zero}
use Rattle.std.specs.Prelude.{◌||◌, ◌&&◌, not, ◌==◌, codes, if◌then◌else◌, ℤ, pos, ◌-ℤ◌, int_div, int_rem, unsigned_abs}
use Rattle.std.specs.Str.{bytes_eq}
use Rattle.std.proofs.lemmas.Bool.{ltb-true}
use Rattle.c_syntax.specs.Plain as plain
use Rattle.c_syntax.specs.Plain.{CExpr}
use Rattle.c_syntax.specs.declared.tree.BinOp.{BinOp}
use Rattle.c_syntax.specs.declared.tree.BinOp.TheVariants as binary
use Rattle.c_types.specs.Types as type
use Rattle.c_types.specs.Types.{CType, CTypes, NoType, MoreType, Tags, is_pointer, is_null, is_unsigned, is_void, words_of}
use Rattle.c_types.specs.Constants.{wrapped}
use Rattle.c_types.specs.Scope.{Routine, entity_of}
use Rattle.c_types.specs.Expressions.{format_of}
use Rattle.c_types.specs.Room.{is_wide_pointer}
use Rattle.c_eval.specs.State.{OtherKind, PointerOrder, Value, Word, Null, Point, Letter, Function, Missing, State, Run}
use Rattle.c_eval.specs.Run.{after, ◌>>=◌, give, unless}
use Rattle.c_eval.specs.Memory.{offset_of, same_object, serves_as_pointer, pointer_difference}
use Rattle.c_eval.specs.Operators.{used, of_word, as_pointer, converted, all_converted, on_words, element_words, pointer_less, sum, difference, operated, combined}
use Rattle.c_eval.specs.Environment.{Environment, type_in, value_type_in, past, named_callee}
use Rattle.c_eval.specs.Eval.{World, cast_value, call, value_of, values_of, values_behind}
use Rattle.c_valid.specs.Valid.{AreValid, IsValid, StateIsValid}
use Rattle.c_valid.proofs.Keeping.{Keeps, bind_keeps}
use Rattle.c_valid.proofs.Operators.{as_pointer_valid, used_keeps}
use Rattle.c_alike.specs.Alike.{EachName}
use Rattle.c_helpers.specs.Terms.{number}
use Rattle.c_helpers.specs.Fewer.{sign_of, counts_unsigned, kind_word, words_in, words_back, helper_call, as_type, moved_pointer, sum_tree, difference_tree, plain_operator, operator_tree}
use Rattle.c_helpers.specs.Meanings.{Action, of_three, pointer_sum, swapped_sum, elements_between, stands_for}
use Rattle.c_fewer_types.specs.Stands.{helper_type}
use Rattle.c_fewer_values.specs.Helping.{difference_name, Helps}
use Rattle.c_fewer_values.specs.Laws.{Takes, LeadsOn, OperatorsAreEvaluated}
use Rattle.c_fewer_values.proofs.Runs.{bind_same, first_is, pair_used, Solid, two_arguments, three_arguments}
use Rattle.c_fewer_values.proofs.Actions.{words_solid, sign_stands, sum_acts, swapped_acts, less_acts, three_solid, swapped_solid}

pub plain_converted : (t : CType) (v : Value) → (is_pointer t || is_null t) ≡ false → converted t v ≡ v
plain_converted t v e = ap (λ b. if b then as_pointer v else v) e

pub number_used : (n : ℕ) (f : Value → Run Value) (st : State) → ((give (Word n) >>= used) >>= f) st ≡ f (Word n) st
unfolding ◌>>=◌ after give used
number_used n f st = refl

combined_so : (tags : Tags) (op : BinOp) (t u : CType) (a b : Run Value) (sign : List ℕ) (c : Bool) → sign_of op c ≡ Some sign → combined tags op t u a b ≡ (a >>= λ x. b >>= λ y. on_words op t u x y)
unfolding combined operated
combined_so tags binary.Mul t u a b sign c e = refl
combined_so tags binary.Div t u a b sign c e = refl
combined_so tags binary.Mod t u a b sign c e = refl
combined_so tags binary.BitAnd t u a b sign c e = refl
combined_so tags binary.BitOr t u a b sign c e = refl
combined_so tags binary.BitXor t u a b sign c e = refl
combined_so tags binary.Shl t u a b sign c e = refl
combined_so tags binary.Shr t u a b sign c e = refl
combined_so tags op t u a b sign c e = absurd (cc e)

pub added_so : (tags : Tags) (t u : CType) (a b : Run Value) → combined tags binary.Add t u a b ≡ (a >>= λ x. b >>= λ y. sum tags t u x y)
unfolding combined operated
added_so tags t u a b = refl

pub taken_so : (tags : Tags) (t u : CType) (a b : Run Value) → combined tags binary.Sub t u a b ≡ (a >>= λ x. b >>= λ y. difference tags t u x y)
unfolding combined operated
taken_so tags t u a b = refl

-- ---- the word 0 is null where pointers are subtracted

offset_same : (v : Value) → offset_of (as_pointer v) ≡ offset_of v
offset_same (Word n) = go (n == 0)
  where
    go : (b : Bool) → offset_of (if b then Null else Word n) ≡ 0
    go true = refl
    go false = refl
offset_same Null = refl
offset_same (Point o k) = refl
offset_same (Letter f i text k) = refl
offset_same (Function f) = refl
offset_same Missing = refl

serves_same : (v : Value) → serves_as_pointer (as_pointer v) ≡ serves_as_pointer v
serves_same (Word n) = go (n == 0) refl
  where
    go : (b : Bool) → (n == 0) ≡ b → serves_as_pointer (if b then Null else Word n) ≡ (n == 0)
    go true e = sym e
    go false e = refl
serves_same Null = refl
serves_same (Point o k) = refl
serves_same (Letter f i text k) = refl
serves_same (Function f) = refl
serves_same Missing = refl

object_same : (x y : Value) → same_object (as_pointer x) (as_pointer y) ≡ same_object x y
object_same (Word n) y = go (n == 0)
  where
    go : (b : Bool) → same_object (if b then Null else Word n) (as_pointer y) ≡ false
    go true = refl
    go false = refl
object_same Null y = refl
object_same (Function f) y = refl
object_same Missing y = refl
object_same (Point o k) (Word n) = go (n == 0)
  where
    go : (b : Bool) → same_object (Point o k) (if b then Null else Word n) ≡ false
    go true = refl
    go false = refl
object_same (Point o k) Null = refl
object_same (Point o k) (Point u l) = refl
object_same (Point o k) (Letter f i text l) = refl
object_same (Point o k) (Function f) = refl
object_same (Point o k) Missing = refl
object_same (Letter f i text k) (Word n) = go (n == 0)
  where
    go : (b : Bool) → same_object (Letter f i text k) (if b then Null else Word n) ≡ false
    go true = refl
    go false = refl
object_same (Letter f i text k) Null = refl
object_same (Letter f i text k) (Point u l) = refl
object_same (Letter f i text k) (Letter g j other l) = refl
object_same (Letter f i text k) (Function g) = refl
object_same (Letter f i text k) Missing = refl

pointers_same : (cells : ℕ) (x y : Value) → pointer_difference cells (as_pointer x) (as_pointer y) ≡ pointer_difference cells x y
unfolding pointer_difference
pointers_same cells x y = λ i. between (serves_same x i && serves_same y i) (object_same x y i) (offset_same x i) (offset_same y i)
  where
    between : Bool → Bool → ℕ → ℕ → Run ℤ
    between a b m n = unless a OtherKind (unless (b && unsigned_abs (int_rem (pos m -ℤ pos n) (pos cells)) == 0) PointerOrder (give (int_div (pos m -ℤ pos n) (pos cells))))

three_is : (p q : Value) (k : ℕ) → of_three elements_between (p ∷ q ∷ Word k ∷ []) ≡ (pointer_difference k p q >>= λ z. give (Word (wrapped z)))
unfolding of_three elements_between of_word
three_is p q k = refl

difference_so : (tags : Tags) (t u : CType) (x y : Value) → is_pointer t ≡ true → is_pointer u ≡ true → difference tags t u x y ≡ (pointer_difference (element_words tags t) x y >>= λ z. give (Word (wrapped z)))
unfolding difference
difference_so tags t u x y e f = ap₂ (λ b c. if b && c then (pointer_difference (element_words tags t) x y >>= λ z. give (Word (wrapped z))) else if b then pointer_less tags t u x y else on_words binary.Sub t u x y) e f

-- the call of a function that does what a part does
pub acts_as : (m n o : Run Value) (st : State) → m st ≡ n st → Solid n → n st ≡ o st → (m >>= used) st ≡ o st
acts_as m n o st e h f = first_is m n used st e ∙ (h.solid st ∙ f)

module _ (w : World) (here : Environment) where
  abbrev P : List ℕ → Type 0
  P = Helps w here.scope

  -- a cast that isn't one to void
  pub cast_runs : (at : ℕ) (t : CType) (e : CExpr) (st : State) → is_void (type_in here.scope (as_type at t e)) ≡ false → value_of (as_type at t e) w here st ≡ (value_of e w here >>= used) st
  unfolding cast_value
  cast_runs at t e st k = ap (λ b. (if b then (value_of e w here >>= λ _. give Missing) else (value_of e w here >>= used)) st) k

  -- a called name has no literal
  pub none_before : (at : ℕ) (name : List ℕ) → past (plain.Var at name) here ≡ here
  none_before at name = ap (λ n. record here { literals_before = n }) (add-zero here.literals_before)

  named : (name : List ℕ) (result : CType) (params : CTypes) → helper_type name ≡ Some (type.Function result params) → P name → (begun : Bool) × (entity_of here.scope name ≡ Some (Routine (type.Function result params) begun))
  named name result params e p = p.known (type.Function result params) e

  pub two_run : (at : ℕ) (name : List ℕ) (result : CType) (params : CTypes) (a b : CExpr) (st : State) → helper_type name ≡ Some (type.Function result params) → P name
      → value_of (helper_call at name (a ∷ b ∷ [])) w here st ≡ ((value_of a w here >>= used) >>= λ x. (value_of b w (past a here) >>= used) >>= λ y. w.calls name (all_converted params (x ∷ y ∷ []))) st
  unfolding call
  two_run at name result params a b st e p =
      ap (λ h. call w (named_callee name (entity_of here.scope name)) (format_of (plain.exprs (a ∷ b ∷ []))) (value_of (plain.Var at name) w here >>= used) (values_of (plain.exprs (a ∷ b ∷ [])) w h) (values_behind (plain.exprs (a ∷ b ∷ [])) w here) st) (none_before at name)
      ∙ (ap (λ o. call w (named_callee name o) (format_of (plain.exprs (a ∷ b ∷ []))) (value_of (plain.Var at name) w here >>= used) (values_of (plain.exprs (a ∷ b ∷ [])) w here) (values_behind (plain.exprs (a ∷ b ∷ [])) w here) st) (named name result params e p).1
      ∙ two_arguments (value_of a w here >>= used) (value_of b w (past a here) >>= used) (λ vs. w.calls name (all_converted params vs)) st)

  pub three_run : (at : ℕ) (name : List ℕ) (result : CType) (params : CTypes) (a b : CExpr) (n : ℕ) (st : State) → helper_type name ≡ Some (type.Function result params) → P name
      → value_of (helper_call at name (a ∷ b ∷ number n ∷ [])) w here st
      ≡ ((value_of a w here >>= used) >>= λ x. (value_of b w (past a here) >>= used) >>= λ y. (give (Word (n % 2 ^ 24)) >>= used) >>= λ z. w.calls name (all_converted params (x ∷ y ∷ z ∷ []))) st
  unfolding call
  three_run at name result params a b n st e p =
      ap (λ h. call w (named_callee name (entity_of here.scope name)) (format_of (plain.exprs (a ∷ b ∷ number n ∷ []))) (value_of (plain.Var at name) w here >>= used) (values_of (plain.exprs (a ∷ b ∷ number n ∷ [])) w h) (values_behind (plain.exprs (a ∷ b ∷ number n ∷ [])) w here) st) (none_before at name)
      ∙ (ap (λ o. call w (named_callee name o) (format_of (plain.exprs (a ∷ b ∷ number n ∷ []))) (value_of (plain.Var at name) w here >>= used) (values_of (plain.exprs (a ∷ b ∷ number n ∷ [])) w here) (values_behind (plain.exprs (a ∷ b ∷ number n ∷ [])) w here) st) (named name result params e p).1
      ∙ three_arguments (value_of a w here >>= used) (value_of b w (past a here) >>= used) (give (Word (n % 2 ^ 24)) >>= used) (λ vs. w.calls name (all_converted params vs)) st)

  -- ---- operands that lead on

  module _ (at : ℕ) (a b : CExpr) (left : LeadsOn w here a) (right : LeadsOn w (past a here) b) where
    abbrev A : Run Value
    A = value_of a w here >>= used

    abbrev B : Run Value
    B = value_of b w (past a here) >>= used

    a_keeps : Keeps IsValid A
    a_keeps = bind_keeps {G = IsValid} {H = IsValid} (record { keeps = left }) used_keeps

    b_keeps : Keeps IsValid B
    b_keeps = bind_keeps {G = IsValid} {H = IsValid} (record { keeps = right }) used_keeps

    -- what follows both and is used
    both_used : (f g : Value → Value → Run Value) (st : State) → StateIsValid st → ((x y : Value) (st : State) → IsValid x → IsValid y → StateIsValid st → (f x y >>= used) st ≡ g x y st) → ((A >>= λ x. B >>= λ y. f x y) >>= used) st ≡ (A >>= λ x. B >>= λ y. g x y) st
    both_used f g st v h = pair_used IsValid A B a_keeps b_keeps f g st v h

    sign_runs : (op : BinOp) (t u result : CType) (c : Bool) (sign : List ℕ) (st : State) → counts_unsigned op t u ≡ c → sign_of op c ≡ Some sign → EachName P (as_type at result (helper_call at sign (a ∷ b ∷ []))) → is_void (type_in here.scope (as_type at result (helper_call at sign (a ∷ b ∷ [])))) ≡ false → StateIsValid st
        → value_of (as_type at result (helper_call at sign (a ∷ b ∷ []))) w here st ≡ combined here.scope.tags op t u A B st
    sign_runs op t u result c sign st k l p void v =
        let h = sign_stands op t u c sign k l in
        let params : CTypes = MoreType h.left (MoreType h.right NoType) in
        cast_runs at result (helper_call at sign (a ∷ b ∷ [])) st void
        ∙ (first_is (value_of (helper_call at sign (a ∷ b ∷ [])) w here) (A >>= λ x. B >>= λ y. w.calls sign (all_converted params (x ∷ y ∷ []))) used st (two_run at sign h.result params a b st h.known p.1.0)
        ∙ (both_used (λ x y. w.calls sign (all_converted params (x ∷ y ∷ []))) (λ x y. on_words op t u x y) st v
        (λ x y st vx vy vs.
        let same : all_converted params (x ∷ y ∷ []) ≡ x ∷ y ∷ [] = ap₂ (λ p q. p ∷ q ∷ []) (plain_converted h.left x h.plain_left) (plain_converted h.right y h.plain_right) in
        acts_as (w.calls sign (all_converted params (x ∷ y ∷ []))) (on_words op t u x y) (on_words op t u x y) st
        (ap (λ vs. w.calls sign vs st) same ∙ (p.1.0.does h.action h.stands h.other (x ∷ y ∷ []) st (vx, (vy, tt)) vs ∙ ap (λ m. m st) (h.same x y vx vy))) (words_solid op t u x y) refl)
        ∙ ap (λ m. m st) (sym (combined_so here.scope.tags op t u A B sign c l))))

    abbrev pointer_params : CType → CTypes
    pointer_params u = MoreType (type.Pointer type.Void) (MoreType u (MoreType type.Int NoType))

    -- a function of three, the last of which is a number of words
    three_used : (name : List ℕ) (result p q t : CType) (n : ℕ) (action : Action) (g : Value → Value → Run Value) (st : State) → helper_type name ≡ Some (type.Function result (MoreType p (MoreType q (MoreType type.Int NoType)))) → P name → stands_for name ≡ Some action → bytes_eq name difference_name ≡ false
        → is_void (type_in here.scope (as_type at t (helper_call at name (a ∷ b ∷ number n ∷ [])))) ≡ false → StateIsValid st
        → ((x y : Value) → IsValid x → IsValid y → AreValid (converted p x ∷ converted q y ∷ Word (n % 2 ^ 24) ∷ []))
        → ((x y : Value) → Solid (action (converted p x ∷ converted q y ∷ Word (n % 2 ^ 24) ∷ [])))
        → ((x y : Value) (st : State) → action (converted p x ∷ converted q y ∷ Word (n % 2 ^ 24) ∷ []) st ≡ g x y st)
        → value_of (as_type at t (helper_call at name (a ∷ b ∷ number n ∷ []))) w here st ≡ (A >>= λ x. B >>= λ y. g x y) st
    three_used name result p q t n action g st e h k o void v good solid same =
        let params : CTypes = MoreType p (MoreType q (MoreType type.Int NoType)) in
        let whole : Value → Value → Run Value = λ x y. (give (Word (n % 2 ^ 24)) >>= used) >>= λ z. w.calls name (all_converted params (x ∷ y ∷ z ∷ [])) in
        cast_runs at t (helper_call at name (a ∷ b ∷ number n ∷ [])) st void
        ∙ (first_is (value_of (helper_call at name (a ∷ b ∷ number n ∷ [])) w here) (A >>= λ x. B >>= λ y. whole x y) used st (three_run at name result params a b n st e h)
        ∙ both_used whole g st v
        (λ x y st vx vy vs.
        acts_as (whole x y) (action (converted p x ∷ converted q y ∷ Word (n % 2 ^ 24) ∷ [])) (g x y) st
        (number_used (n % 2 ^ 24) (λ z. w.calls name (all_converted params (x ∷ y ∷ z ∷ []))) st ∙ h.does action k o (converted p x ∷ converted q y ∷ Word (n % 2 ^ 24) ∷ []) st (good x y vx vy) vs) (solid x y) (same x y st)))

    abbrev kind : Bool → CType
    kind unsigned = if unsigned then type.Unsigned else type.Int

    moved_runs : (t u : CType) (unsigned : Bool) (n : ℕ) (g : Value → Value → Run Value) (st : State) → P (codes "pointer + " ++ kind_word unsigned) → is_void (type_in here.scope (moved_pointer at t unsigned a b (number n))) ≡ false → StateIsValid st
        → ((x y : Value) (st : State) → of_three (pointer_sum unsigned) (as_pointer x ∷ y ∷ Word (n % 2 ^ 24) ∷ []) st ≡ g x y st) → value_of (moved_pointer at t unsigned a b (number n)) w here st ≡ (A >>= λ x. B >>= λ y. g x y) st
    moved_runs t u true n g st p void v same =
        three_used (codes "pointer + unsigned") (type.Pointer type.Void) (type.Pointer type.Void) type.Unsigned t n (of_three (pointer_sum true)) g st refl p refl refl void v
        (λ x y vx vy. (as_pointer_valid x vx, (vy, (few n, tt)))) (λ x y. three_solid true (as_pointer x) y (n % 2 ^ 24)) same
      where
        few : (n : ℕ) → n % 2 ^ 24 < 2 ^ 24
        few n = omega arith
    moved_runs t u false n g st p void v same =
        three_used (codes "pointer + int") (type.Pointer type.Void) (type.Pointer type.Void) type.Int t n (of_three (pointer_sum false)) g st refl p refl refl void v
        (λ x y vx vy. (as_pointer_valid x vx, (vy, (few n, tt)))) (λ x y. three_solid false (as_pointer x) y (n % 2 ^ 24)) same
      where
        few : (n : ℕ) → n % 2 ^ 24 < 2 ^ 24
        few n = omega arith

    swapped_runs : (t : CType) (unsigned : Bool) (n : ℕ) (g : Value → Value → Run Value) (st : State) → P (kind_word unsigned ++ codes " + pointer") → is_void (type_in here.scope (as_type at t (helper_call at (kind_word unsigned ++ codes " + pointer") (a ∷ b ∷ number n ∷ [])))) ≡ false → StateIsValid st
        → ((x y : Value) (st : State) → of_three (swapped_sum unsigned) (x ∷ as_pointer y ∷ Word (n % 2 ^ 24) ∷ []) st ≡ g x y st) → value_of (as_type at t (helper_call at (kind_word unsigned ++ codes " + pointer") (a ∷ b ∷ number n ∷ []))) w here st ≡ (A >>= λ x. B >>= λ y. g x y) st
    swapped_runs t true n g st p void v same =
        three_used (codes "unsigned + pointer") (type.Pointer type.Void) type.Unsigned (type.Pointer type.Void) t n (of_three (swapped_sum true)) g st refl p refl refl void v
        (λ x y vx vy. (vx, (as_pointer_valid y vy, (few n, tt)))) (λ x y. swapped_solid true x (as_pointer y) (n % 2 ^ 24)) same
      where
        few : (n : ℕ) → n % 2 ^ 24 < 2 ^ 24
        few n = omega arith
    swapped_runs t false n g st p void v same =
        three_used (codes "int + pointer") (type.Pointer type.Void) type.Int (type.Pointer type.Void) t n (of_three (swapped_sum false)) g st refl p refl refl void v
        (λ x y vx vy. (vx, (as_pointer_valid y vy, (few n, tt)))) (λ x y. swapped_solid false x (as_pointer y) (n % 2 ^ 24)) same
      where
        few : (n : ℕ) → n % 2 ^ 24 < 2 ^ 24
        few n = omega arith

    -- ---- the trees

    abbrev tags : Tags
    tags = here.scope.tags

    if_runs : (b : Bool) (e f : CExpr) (st : State) (r : Run Value) → EachName P (if b then e else f) → is_void (type_in here.scope (if b then e else f)) ≡ false → (b ≡ true → EachName P e → is_void (type_in here.scope e) ≡ false → value_of e w here st ≡ r st) → (b ≡ false → EachName P f → is_void (type_in here.scope f) ≡ false → value_of f w here st ≡ r st) → value_of (if b then e else f) w here st ≡ r st
    if_runs true e f st r p v g h = g refl p v
    if_runs false e f st r p v g h = h refl p v

    -- an operator that stays
    stays : (op : BinOp) (t u : CType) (st : State) → value_type_in here.scope a ≡ t → value_type_in here.scope b ≡ u → value_of (plain.Binary at op a b) w here st ≡ combined tags op t u A B st
    stays op t u st e f = ap₂ (λ t u. combined tags op t u A B st) e f

    wide_pointer : (t : CType) → is_wide_pointer tags t ≡ true → (is_pointer t ≡ true) × (1 < element_words tags t)
    wide_pointer (type.Pointer t) e = (refl, ltb-true 1 (words_of tags t) e)
    wide_pointer t e = absurd (cc e)

    pub sum_runs : (t u : CType) (st : State) → Takes tags binary.Add t u → value_type_in here.scope a ≡ t → value_type_in here.scope b ≡ u → EachName P (sum_tree tags at t u a b) → is_void (type_in here.scope (sum_tree tags at t u a b)) ≡ false → StateIsValid st → value_of (sum_tree tags at t u a b) w here st ≡ combined tags binary.Add t u A B st
    sum_runs t u st takes e f p void v =
        if_runs (is_wide_pointer tags t) (moved_pointer at t (is_unsigned u) a b (words_in tags t)) (if is_wide_pointer tags u then as_type at u (helper_call at (kind_word (is_unsigned t) ++ codes " + pointer") (a ∷ b ∷ words_in tags u ∷ [])) else plain.Binary at binary.Add a b) st (combined tags binary.Add t u A B) p void
        (λ wide q void. moved_runs t u (is_unsigned u) (element_words tags t) (λ x y. sum tags t u x y) st q.1.0 void v (λ x y st. sum_acts tags t u x y st (wide_pointer t wide).0 takes.left) ∙ ap (λ m. m st) (sym (added_so tags t u A B)))
        (λ narrow q void. if_runs (is_wide_pointer tags u) (as_type at u (helper_call at (kind_word (is_unsigned t) ++ codes " + pointer") (a ∷ b ∷ words_in tags u ∷ []))) (plain.Binary at binary.Add a b) st (combined tags binary.Add t u A B) q void
        (λ wide q void. swapped_runs u (is_unsigned t) (element_words tags u) (λ x y. sum tags t u x y) st q.1.0 void v (λ x y st. swapped_acts tags t u x y st (no_pointer (is_pointer t) (is_pointer u) (wide_pointer u wide).0 (takes.added refl)) (wide_pointer u wide).0 takes.right) ∙ ap (λ m. m st) (sym (added_so tags t u A B)))
        (λ narrow q void. stays binary.Add t u st e f))
      where
        no_pointer : (b c : Bool) → c ≡ true → (b && c) ≡ false → b ≡ false
        no_pointer true c e f = absurd (cc (sym e ∙ f))
        no_pointer false c e f = refl

    -- the call takes the word 0 as null, as the operator does
    subtracted_runs : (t u : CType) (st : State) → is_pointer t ≡ true → is_pointer u ≡ true → 0 < element_words tags t → element_words tags t < 2 ^ 23 → P difference_name → StateIsValid st
        → value_of (helper_call at difference_name (a ∷ b ∷ words_in tags t ∷ [])) w here st ≡ combined tags binary.Sub t u A B st
    subtracted_runs t u st e f some few helps v =
        let n : ℕ = element_words tags t in
        let params : CTypes = MoreType (type.Pointer type.Void) (MoreType (type.Pointer type.Void) (MoreType type.Int NoType)) in
        let whole : Value → Value → Run Value = λ x y. (give (Word (n % 2 ^ 24)) >>= used) >>= λ z. w.calls difference_name (all_converted params (x ∷ y ∷ z ∷ [])) in
        let word : n % 2 ^ 24 ≡ n = omega (arith, few) in
        let told : (x y : Value) → (pointer_difference n (as_pointer x) (as_pointer y) >>= λ z. give (Word (wrapped z))) ≡ difference tags t u x y =
        λ x y. ap (λ m. m >>= λ z. give (Word (wrapped z))) (pointers_same n x y) ∙ sym (difference_so tags t u x y e f) in
        three_run at difference_name type.Int params a b n st refl helps
        ∙ (bind_same IsValid A (λ x. B >>= λ y. whole x y) (λ x. B >>= λ y. difference tags t u x y) st a_keeps v
        (λ x st vx vs. bind_same IsValid B (λ y. whole x y) (λ y. difference tags t u x y) st b_keeps vs
        (λ y st vy vt.
        number_used (n % 2 ^ 24) (λ z. w.calls difference_name (all_converted params (x ∷ y ∷ z ∷ []))) st
        ∙ (ap (λ k. w.calls difference_name (as_pointer x ∷ as_pointer y ∷ Word k ∷ []) st) word
        ∙ (helps.differs refl (as_pointer x) (as_pointer y) n st (as_pointer_valid x vx, (as_pointer_valid y vy, tt)) some few vt
        ∙ (ap (λ (m : Run Value). m st) (three_is (as_pointer x) (as_pointer y) n) ∙ ap (λ (m : Run Value). m st) (told x y))))))
        ∙ ap (λ m. m st) (sym (taken_so tags t u A B)))

    difference_runs : (t u : CType) (st : State) → Takes tags binary.Sub t u → value_type_in here.scope a ≡ t → value_type_in here.scope b ≡ u → EachName P (difference_tree tags at t u a b) → is_void (type_in here.scope (difference_tree tags at t u a b)) ≡ false → StateIsValid st → value_of (difference_tree tags at t u a b) w here st ≡ combined tags binary.Sub t u A B st
    difference_runs t u st takes e f p void v =
        if_runs (not (is_wide_pointer tags t)) (plain.Binary at binary.Sub a b) (if is_pointer u then helper_call at difference_name (a ∷ b ∷ words_in tags t ∷ []) else moved_pointer at t (is_unsigned u) a b (words_back tags t)) st (combined tags binary.Sub t u A B) p void
        (λ narrow q void. stays binary.Sub t u st e f)
        (λ wide q void. if_runs (is_pointer u) (helper_call at difference_name (a ∷ b ∷ words_in tags t ∷ [])) (moved_pointer at t (is_unsigned u) a b (words_back tags t)) st (combined tags binary.Sub t u A B) q void
        (λ pointer q void. let some = wide_pointer t (is_so (is_wide_pointer tags t) wide) in subtracted_runs t u st some.0 pointer (less_than some.1) takes.left q.0 v)
        (λ number q void.
        let some = wide_pointer t (is_so (is_wide_pointer tags t) wide) in
        moved_runs t u (is_unsigned u) (2 ^ 24 - element_words tags t) (λ x y. difference tags t u x y) st q.1.0 void v (λ x y st. less_acts tags t u x y st some.0 number some.1 takes.left) ∙ ap (λ m. m st) (sym (taken_so tags t u A B))))
      where
        is_so : (b : Bool) → not b ≡ false → b ≡ true
        is_so true e = refl
        is_so false e = absurd (cc e)

        less_than : {n : ℕ} → 1 < n → 0 < n
        less_than e = omega (arith, e)

    plain_runs : (op : BinOp) (t u : CType) (st : State) → Takes tags op t u → value_type_in here.scope a ≡ t → value_type_in here.scope b ≡ u → EachName P (plain_operator tags at op t u a b) → is_void (type_in here.scope (plain_operator tags at op t u a b)) ≡ false → StateIsValid st → value_of (plain_operator tags at op t u a b) w here st ≡ combined tags op t u A B st
    plain_runs binary.Add t u st takes e f p void v = sum_runs t u st takes e f p void v
    plain_runs binary.Sub t u st takes e f p void v = difference_runs t u st takes e f p void v
    plain_runs op t u st takes e f p void v = stays op t u st e f

    pub operator_runs : (op : BinOp) (result t u : CType) (o : Option (List ℕ)) (st : State) → sign_of op (counts_unsigned op t u) ≡ o → Takes tags op t u → value_type_in here.scope a ≡ t → value_type_in here.scope b ≡ u → EachName P (operator_tree tags at o op result t u a b) → is_void (type_in here.scope (operator_tree tags at o op result t u a b)) ≡ false → StateIsValid st
        → value_of (operator_tree tags at o op result t u a b) w here st ≡ combined tags op t u A B st
    operator_runs op result t u None st k takes e f p void v = plain_runs op t u st takes e f p void v
    operator_runs op result t u (Some sign) st k takes e f p void v = sign_runs op t u result (counts_unsigned op t u) sign st refl k p void v

pub operators_are_evaluated : OperatorsAreEvaluated
operators_are_evaluated w here at op result t u a b st helps takes e f void left right v = operator_runs w here at a b left right op result t u (sign_of op (counts_unsigned op t u)) st refl takes e f helps void v
