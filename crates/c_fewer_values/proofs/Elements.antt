-- An element of a wide array is where it was, and is worth what it was.
use Rattle.std.proofs.Common.{◌≡◌, ℕ, List, Bool, true, false, refl, sym, ap, ap₂, ◌∙◌}
use Rattle.std.specs.Prelude.{◌||◌, if◌then◌else◌}
use Rattle.c_syntax.specs.Plain as plain
use Rattle.c_syntax.specs.Plain.{CExpr}
use Rattle.c_syntax.specs.declared.tree.UnOp.TheVariants as unary
use Rattle.c_syntax.specs.declared.tree.BinOp.TheVariants as binary
use Rattle.c_types.specs.Types as type
use Rattle.c_types.specs.Types.{CType, Tags, is_object_pointer, is_void}
use Rattle.c_types.specs.Room.{is_wide_pointer}
use Rattle.c_eval.specs.State.{Value, State, Run}
use Rattle.c_eval.specs.Run.{◌>>=◌}
use Rattle.c_eval.specs.Operators.{used, sum, pointed_value, value_at}
use Rattle.c_eval.specs.Environment.{Environment, type_in, value_type_in, past}
use Rattle.c_eval.specs.Eval.{World, unary_value, unary_place, element, value_of, place_of}
use Rattle.c_valid.specs.Valid.{StateIsValid}
use Rattle.c_alike.specs.Alike.{EachName}
use Rattle.c_helpers.specs.Fewer.{sum_tree, element_tree}
use Rattle.c_fewer_values.specs.Helping.{Helps}
use Rattle.c_fewer_values.specs.Laws.{Takes, LeadsOn, ElementsArePlaces, ElementsAreEvaluated}
use Rattle.c_fewer_values.proofs.Runs.{first_is, bind_each, bind_solid}
use Rattle.c_fewer_values.proofs.Operators.{added_so, sum_runs}
use Rattle.c_fewer_values.proofs.Places.{sum_solid}

pointed_so : (inner : Bool) (r : CType) (p : Value) → is_object_pointer (type.Pointer r) ≡ true → pointed_value inner (type.Pointer r) p ≡ value_at inner r p
unfolding pointed_value
pointed_so inner (type.Function t ts) p e = absurd (cc e)
pointed_so inner type.Void p e = refl
pointed_so inner type.Int p e = refl
pointed_so inner type.Unsigned p e = refl
pointed_so inner type.Char p e = refl
pointed_so inner type.UChar p e = refl
pointed_so inner type.Null p e = refl
pointed_so inner (type.Struct tag) p e = refl
pointed_so inner (type.Pointer t) p e = refl
pointed_so inner (type.Array t n) p e = refl

element_so : (w : World) (tags : Tags) (t u : CType) (m n : Run Value) → element w tags t u m n ≡ (m >>= λ x. n >>= λ y. sum tags t u x y)
unfolding element
element_so w tags t u m n = refl

module _ (w : World) (here : Environment) (at : ℕ) (a b : CExpr) (left : LeadsOn w here a) (right : LeadsOn w (past a here) b) (t u : CType) (takes : Takes here.scope.tags binary.Add t u) (e : value_type_in here.scope a ≡ t) (f : value_type_in here.scope b ≡ u) where
  abbrev tags : Tags
  tags = here.scope.tags

  abbrev P : List ℕ → Type 0
  P = Helps w here.scope

  abbrev A : Run Value
  A = value_of a w here >>= used

  abbrev B : Run Value
  B = value_of b w (past a here) >>= used

  abbrev whole : CExpr
  whole = sum_tree tags at t u a b

  -- the sum is the place
  summed : (st : State) → EachName P whole → is_void (type_in here.scope whole) ≡ false → StateIsValid st → (value_of whole w here >>= used) st ≡ element w tags t u A B st
  summed st p void v =
      first_is (value_of whole w here) (A >>= λ x. B >>= λ y. sum tags t u x y) used st (sum_runs w here at a b left right t u st takes e f p void v ∙ ap (λ (m : Run Value). m st) (added_so tags t u A B))
      ∙ ((bind_solid A (λ x. B >>= λ y. sum tags t u x y) (λ x. bind_solid B (λ y. sum tags t u x y) (λ y. sum_solid tags t u x y))).solid st ∙ ap (λ (m : Run Value). m st) (sym (element_so w tags t u A B)))

  wide_place : (st : State) → EachName P whole → is_void (type_in here.scope whole) ≡ false → StateIsValid st → place_of (plain.Unary at unary.Deref whole) w here st ≡ element w tags t u A B st
  unfolding unary_place
  wide_place st p void v = summed st p void v

  wide_value : (r : CType) (st : State) → EachName P whole → is_void (type_in here.scope whole) ≡ false → value_type_in here.scope whole ≡ type.Pointer r → is_object_pointer (type.Pointer r) ≡ true → StateIsValid st
      → value_of (plain.Unary at unary.Deref whole) w here st ≡ (element w tags t u A B >>= value_at w.inner r) st
  unfolding unary_value
  wide_value r st p void k o v =
      ap (λ t. ((value_of whole w here >>= used) >>= pointed_value w.inner t) st) k
      ∙ (first_is (value_of whole w here >>= used) (element w tags t u A B) (pointed_value w.inner (type.Pointer r)) st (summed st p void v)
      ∙ bind_each (element w tags t u A B) (pointed_value w.inner (type.Pointer r)) (value_at w.inner r) st (λ q st. ap (λ (m : Run Value). m st) (pointed_so w.inner r q o)))

  place_by : (b' : Bool) (st : State) → EachName P (if b' then plain.Unary at unary.Deref whole else plain.Index at a b) → (b' ≡ true → is_void (type_in here.scope whole) ≡ false) → StateIsValid st
      → place_of (if b' then plain.Unary at unary.Deref whole else plain.Index at a b) w here st ≡ element w tags t u A B st
  place_by true st p void v = wide_place st p (void refl) v
  place_by false st p void v = ap₂ (λ t u. element w tags t u A B st) e f

  value_by : (b' : Bool) (r : CType) (st : State) → EachName P (if b' then plain.Unary at unary.Deref whole else plain.Index at a b) → (b' ≡ true → (is_void (type_in here.scope whole) ≡ false) × (value_type_in here.scope whole ≡ type.Pointer r) × (is_object_pointer (type.Pointer r) ≡ true))
      → (b' ≡ false → type_in here.scope (plain.Index at a b) ≡ r) → StateIsValid st → value_of (if b' then plain.Unary at unary.Deref whole else plain.Index at a b) w here st ≡ (element w tags t u A B >>= value_at w.inner r) st
  value_by true r st p wide narrow v = let k = wide refl in wide_value r st p k.0 k.1 k.2 v
  value_by false r st p wide narrow v = ap₂ (λ t u. (element w tags t u A B >>= value_at w.inner (type_in here.scope (plain.Index at a b))) st) e f ∙ ap (λ r. (element w tags t u A B >>= value_at w.inner r) st) (narrow refl)

  pub element_place : (st : State) → EachName P (element_tree tags at t u a b) → ((is_wide_pointer tags t || is_wide_pointer tags u) ≡ true → is_void (type_in here.scope whole) ≡ false) → StateIsValid st → place_of (element_tree tags at t u a b) w here st ≡ element w tags t u A B st
  element_place st p void v = place_by (is_wide_pointer tags t || is_wide_pointer tags u) st p void v

  pub element_value : (r : CType) (st : State) → EachName P (element_tree tags at t u a b)
      → ((is_wide_pointer tags t || is_wide_pointer tags u) ≡ true → (is_void (type_in here.scope whole) ≡ false) × (value_type_in here.scope whole ≡ type.Pointer r) × (is_object_pointer (type.Pointer r) ≡ true))
      → ((is_wide_pointer tags t || is_wide_pointer tags u) ≡ false → type_in here.scope (plain.Index at a b) ≡ r) → StateIsValid st → value_of (element_tree tags at t u a b) w here st ≡ (element w tags t u A B >>= value_at w.inner r) st
  element_value r st p wide narrow v = value_by (is_wide_pointer tags t || is_wide_pointer tags u) r st p wide narrow v

pub elements_are_places : ElementsArePlaces
elements_are_places w here at t u a b st helps takes e f void left right v = element_place w here at a b left right t u takes e f st helps void v

pub elements_are_evaluated : ElementsAreEvaluated
elements_are_evaluated w here at r t u a b st helps takes e f wide narrow left right v = element_value w here at a b left right t u takes e f r st helps wide narrow v
