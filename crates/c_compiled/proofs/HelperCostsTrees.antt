-- Names of trees that stand for operators, by the kinds that occur.
use Rattle.std.proofs.Common.{◌≡◌, ℕ, List, [], ◌∷◌, ◌++◌, Option, Some, None, Bool, true, false, refl, sym, ap, ap₂, ◌∙◌, subst, cond}
use Rattle.std.specs.Prelude.{◌==◌, ◌&&◌, ◌||◌, nat_lt, not, codes, drop, if◌then◌else◌}
use Rattle.std.specs.List.{list_any}
use Rattle.std.specs.Str.{bytes_eq}
use Rattle.std.proofs.lemmas.Bool.{and_from, and_parts, or_left, or_right}
use Rattle.c_syntax.specs.Plain as plain
use Rattle.c_syntax.specs.Plain.{CExpr, CExprs}
use Rattle.c_syntax.specs.Words.{meaning}
use Rattle.c_syntax.specs.declared.tree.StepOp.{StepOp}
use Rattle.c_syntax.specs.declared.tree.BinOp.{BinOp}
use Rattle.c_syntax.specs.declared.tree.StepOp.TheVariants as step
use Rattle.c_syntax.specs.declared.tree.BinOp.TheVariants as binary
use Rattle.c_types.specs.Types as type
use Rattle.c_types.specs.Types.{CType, Tags, is_arithmetic, is_pointer, is_unsigned, is_object_type, same_type, words_of, decayed}
use Rattle.c_types.specs.Scope.{Scope}
use Rattle.c_types.specs.Operands.{Operand, value_type, when, or_else, difference_type, number_type, binary_type, result_converts, conversions_of}
use Rattle.c_types.specs.Room.{Kind, kind_number, is_wide_pointer, where_wide, operator_kinds, pointer_kinds, PointerArithmetic, PointerDifference}
use Rattle.c_helpers.specs.Terms.{declaration}
use Rattle.c_helpers.specs.Functions.{Helper, unit_name, refill_name, piece_name, a}
use Rattle.c_helpers.specs.Laws.{is_strange, each}
use Rattle.c_helpers.specs.Meanings.{is_format}
use Rattle.c_helpers.specs.Names.{names_in, names_in_all}
use Rattle.c_helpers.specs.Fewer.{told, kind_word, sign_of, operator_tree, sum_tree, difference_tree, assignment_tree, plain_assignment, wide_step, step_tree, element_tree, call_tree}
use Rattle.c_fewer_types.specs.Standing.{IsTextName}
use Rattle.c_worlds.specs.Named.{Each}
use Rattle.c_fewer_names.proofs.Expressions.{each_both}
use Rattle.c_fewer_names.specs.FewerKnownLaws.{operators}
use Rattle.c_fewer_names.proofs.Trees.{is_var}
use Rattle.c_fewer_names.proofs.Front.{no_first, format_is}
use Rattle.c_compiled.specs.HelperCostsLaws.{has_kind, letters_occur, is_called}
use Rattle.c_compiled.proofs.HelperCostsSums.{has, same_number}

-- ---- names

abbrev pub IsCalled : (Kind → Bool) → List ℕ → Type 0
IsCalled occurs name = is_called occurs name ≡ true

-- ---- kinds that occur

pub only : (b : Bool) → (b && true) ≡ true → b ≡ true
only true e = refl
only false e = absurd (cc e)

not_false : (b : Bool) → not b ≡ false → b ≡ true
not_false true e = refl
not_false false e = absurd (cc e)

-- where the kinds of an expression occur
pub each_told : (occurs : Kind → Bool) (ks : List Kind) → ((k : Kind) → has ks k ≡ true → occurs k ≡ true) → each occurs ks ≡ true
each_told occurs [] f = refl
each_told occurs (k ∷ ks) f =
    and_from (occurs k) (each occurs ks) (f k (or_left (kind_number k == kind_number k) (has ks k) (same_number (kind_number k))))
    (each_told occurs ks (λ j e. f j (or_right (kind_number k == kind_number j) (has ks j) e)))

pub each_first : (occurs : Kind → Bool) (ks js : List Kind) → each occurs (ks ++ js) ≡ true → each occurs ks ≡ true
each_first occurs [] js e = refl
each_first occurs (k ∷ ks) js e = let p = and_parts (occurs k) (each occurs (ks ++ js)) e in and_from (occurs k) (each occurs ks) p.0 (each_first occurs ks js p.1)

pub each_last : (occurs : Kind → Bool) (ks js : List Kind) → each occurs (ks ++ js) ≡ true → each occurs js ≡ true
each_last occurs [] js e = e
each_last occurs (k ∷ ks) js e = let p = and_parts (occurs k) (each occurs (ks ++ js)) e in each_last occurs ks js p.1

pub where_told : (occurs : Kind → Bool) (x : Bool) (k : Kind) → each occurs (where_wide x k) ≡ true → x ≡ true → occurs k ≡ true
where_told occurs true k h e = only (occurs k) h
where_told occurs false k h e = absurd (cc e)

-- ---- names of a text

no_operator : (b c d : Bool) (x y z : Helper) (o : Option Helper) → cond b (Some x) (cond c (Some y) (cond d (Some z) o)) ≡ None → o ≡ None
no_operator true c d x y z o e = absurd (cc e)
no_operator false true d x y z o e = absurd (cc e)
no_operator false false true x y z o e = absurd (cc e)
no_operator false false false x y z o e = e

pub plain_name : (name : List ℕ) → IsTextName name → meaning operators name ≡ None
plain_name name n = no_operator (bytes_eq name unit_name) (bytes_eq name refill_name) (bytes_eq name piece_name) (told unit_name []) (told refill_name []) (told piece_name (declaration plain.Int a ∷ [])) (meaning operators name) (no_first name n)

pub formless : (name : List ℕ) → IsTextName name → is_format name ≡ false
formless name n = go (is_format name) refl
  where
    go : (b : Bool) → is_format name ≡ b → b ≡ false
    go true e = absurd (cc (sym n ∙ ap (λ z. list_any is_strange z) (format_is name e)))
    go false e = refl

pub text_called : (occurs : Kind → Bool) (name : List ℕ) → IsTextName name → IsCalled occurs name
text_called occurs name n = ap₂ (λ o b. has_kind occurs o && (not b || letters_occur occurs (conversions_of (drop 7 name)))) (plain_name name n) (formless name n)

-- ---- operators

module _ (occurs : Kind → Bool) where
  abbrev C : List ℕ → Type 0
  C name = is_called occurs name ≡ true

  abbrev pub AreCalled : CExpr → Type 0
  AreCalled e = Each C (names_in e)

  -- a name whose first kind occurs
  first_kind : (b r : Bool) → b ≡ true → ((b || r) && true) ≡ true
  first_kind true r e = refl
  first_kind false r e = absurd (cc e)

  sum_name : (b : Bool) → occurs PointerArithmetic ≡ true → C (codes "pointer + " ++ kind_word b)
  sum_name true e = first_kind (occurs PointerArithmetic) false e
  sum_name false e = first_kind (occurs PointerArithmetic) false e

  swapped_name : (b : Bool) → occurs PointerArithmetic ≡ true → C (kind_word b ++ codes " + pointer")
  swapped_name true e = first_kind (occurs PointerArithmetic) false e
  swapped_name false e = first_kind (occurs PointerArithmetic) false e

  moving_name : (b : Bool) → occurs PointerArithmetic ≡ true → C (codes "pointer += " ++ kind_word b)
  moving_name true e = first_kind (occurs PointerArithmetic) false e
  moving_name false e = first_kind (occurs PointerArithmetic) false e

  abbrev pub SignIsCalled : Option (List ℕ) → Type 0
  SignIsCalled None = Unit {0}
  SignIsCalled (Some sign) = C sign × C (sign ++ codes "=")

  two_names : (k : Kind) (r q : Bool) → (occurs k && true) ≡ true → (((occurs k || r) && true) ≡ true) × (((occurs k || q) && true) ≡ true)
  two_names k r q e = (first_kind (occurs k) r (only (occurs k) e), first_kind (occurs k) q (only (occurs k) e))

  pub sign_called : (op : BinOp) (b : Bool) → each occurs (operator_kinds op) ≡ true → SignIsCalled (sign_of op b)
  sign_called binary.Mul b e = two_names _ _ _ e
  sign_called binary.Div true e = two_names _ _ _ e
  sign_called binary.Div false e = two_names _ _ _ e
  sign_called binary.Mod true e = two_names _ _ _ e
  sign_called binary.Mod false e = two_names _ _ _ e
  sign_called binary.BitAnd b e = two_names _ _ _ e
  sign_called binary.BitOr b e = two_names _ _ _ e
  sign_called binary.BitXor b e = two_names _ _ _ e
  sign_called binary.Shl b e = two_names _ _ _ e
  sign_called binary.Shr true e = two_names _ _ _ e
  sign_called binary.Shr false e = two_names _ _ _ e
  sign_called op b e = tt

  if_called : (b : Bool) (x y : CExpr) → (b ≡ true → AreCalled x) → (b ≡ false → AreCalled y) → AreCalled (if b then x else y)
  if_called true x y h k = h refl
  if_called false x y h k = k refl

  module _ (tags : Tags) (at : ℕ) (a b : CExpr) (h : AreCalled a) (k : AreCalled b) where
    -- a call with both
    with_two : (name : List ℕ) → C name → Each C (name ∷ (names_in a ++ (names_in b ++ [])))
    with_two name n = (n, each_both C (names_in a) (names_in b ++ []) h (each_both C (names_in b) [] k tt))

    plainly : Each C (names_in a ++ names_in b)
    plainly = each_both C (names_in a) (names_in b) h k

    sum_called : (t u : CType) → each occurs (pointer_kinds tags binary.Add t u) ≡ true → AreCalled (sum_tree tags at t u a b)
    sum_called t u e =
        if_called (is_wide_pointer tags t) _ _ (λ w. with_two (codes "pointer + " ++ kind_word (is_unsigned u)) (sum_name (is_unsigned u) (where_told occurs (is_wide_pointer tags t || is_wide_pointer tags u) PointerArithmetic e (or_left (is_wide_pointer tags t) (is_wide_pointer tags u) w))))
        (λ _. if_called (is_wide_pointer tags u) _ _ (λ w. with_two (kind_word (is_unsigned t) ++ codes " + pointer") (swapped_name (is_unsigned t) (where_told occurs (is_wide_pointer tags t || is_wide_pointer tags u) PointerArithmetic e (or_right (is_wide_pointer tags t) (is_wide_pointer tags u) w)))) (λ _. plainly))

    difference_called : (t u : CType) → each occurs (pointer_kinds tags binary.Sub t u) ≡ true → AreCalled (difference_tree tags at t u a b)
    difference_called t u e =
        if_called (not (is_wide_pointer tags t)) _ _ (λ _. plainly)
        (λ w. let told = where_told occurs (is_wide_pointer tags t) (if is_pointer u then PointerDifference else PointerArithmetic) e (not_false (is_wide_pointer tags t) w) in
        if_called (is_pointer u) _ _ (λ p. with_two (codes "pointer - pointer") (first_kind (occurs PointerDifference) false (sym (ap (λ z. occurs (if z then PointerDifference else PointerArithmetic)) p) ∙ told)))
        (λ p. with_two (codes "pointer + " ++ kind_word (is_unsigned u)) (sum_name (is_unsigned u) (sym (ap (λ z. occurs (if z then PointerDifference else PointerArithmetic)) p) ∙ told))))

    pub operator_called : (o : Option (List ℕ)) (op : BinOp) (result t u : CType) → SignIsCalled o → each occurs (pointer_kinds tags op t u) ≡ true → AreCalled (operator_tree tags at o op result t u a b)
    operator_called (Some sign) op result t u s e = with_two sign s.0
    operator_called None binary.Add result t u s e = sum_called t u e
    operator_called None binary.Sub result t u s e = difference_called t u e
    operator_called None op result t u s e = plainly

    moved_called : (op : BinOp) (t u : CType) → (is_wide_pointer tags t ≡ true → occurs PointerArithmetic ≡ true) → AreCalled (plain_assignment tags at op t u a b)
    moved_called binary.Sub t u f = if_called (is_wide_pointer tags t) _ _ (λ w. with_two (codes "pointer += " ++ kind_word (is_unsigned u)) (moving_name (is_unsigned u) (f w))) (λ _. plainly)
    moved_called op t u f = if_called (is_wide_pointer tags t) _ _ (λ w. with_two (codes "pointer += " ++ kind_word (is_unsigned u)) (moving_name (is_unsigned u) (f w))) (λ _. plainly)

    pub assignment_called : (o : Option (List ℕ)) (op : BinOp) (t u : CType) → SignIsCalled o → (is_wide_pointer tags t ≡ true → occurs PointerArithmetic ≡ true) → AreCalled (assignment_tree tags at o op t u a b)
    assignment_called (Some sign) op t u s f = with_two (sign ++ codes "=") s.1
    assignment_called None op t u s f = moved_called op t u f

    pub element_called : (t u : CType) → each occurs (pointer_kinds tags binary.Add t u) ≡ true → AreCalled (element_tree tags at t u a b)
    element_called t u e = if_called (is_wide_pointer tags t || is_wide_pointer tags u) _ _ (λ _. sum_called t u e) (λ _. plainly)

  module _ (tags : Tags) (at : ℕ) (a : CExpr) (h : AreCalled a) where
    with_one : (name : List ℕ) → C name → Each C (name ∷ (names_in a ++ []))
    with_one name n = (n, each_both C (names_in a) [] h tt)

    wide_called : (op : StepOp) (t : CType) → occurs PointerArithmetic ≡ true → AreCalled (wide_step tags at op t a)
    wide_called step.PreInc t e = with_one (codes "pointer += int") (first_kind (occurs PointerArithmetic) false e)
    wide_called step.PreDec t e = with_one (codes "pointer += int") (first_kind (occurs PointerArithmetic) false e)
    wide_called step.PostInc t e = with_one (codes "pointer++") (first_kind (occurs PointerArithmetic) false e)
    wide_called step.PostDec t e = with_one (codes "pointer++") (first_kind (occurs PointerArithmetic) false e)

    pub step_called : (op : StepOp) (t : CType) → (is_wide_pointer tags t ≡ true → occurs PointerArithmetic ≡ true) → AreCalled (step_tree tags at op t a)
    step_called op t f = if_called (is_wide_pointer tags t) _ _ (λ w. wide_called op t (f w)) (λ _. h)

  pub call_plain : (s : Scope) (at : ℕ) (f : CExpr) (format : Option (List ℕ)) (es : CExprs) → is_var f ≡ false → Each C (names_in f ++ names_in_all es) → AreCalled (call_tree s at f format es)
  call_plain s at (plain.Var pos name) format es e h = absurd (cc e)
  call_plain s at f format es e h = h

-- ---- wide pointers

-- an expression is used with the type that it has, but for an array
pub wide_decayed : (tags : Tags) (t : CType) → is_wide_pointer tags t ≡ true → is_wide_pointer tags (decayed t) ≡ true
wide_decayed tags (type.Pointer t) e = e
wide_decayed tags t e = absurd (cc e)

-- what assigns to a pointer is a sum, or a difference with a number
module _ (at : ℕ) (t : CType) where
  int_refused : (c : Bool) (u : CType) → u ≡ type.Pointer t → result_converts at (when c type.Int) u ≡ true → ⊥
  int_refused c u e k = go c (subst (λ z. result_converts at (when c type.Int) z ≡ true) e k)
    where
      go : (b : Bool) → result_converts at (when b type.Int) (type.Pointer t) ≡ true → ⊥
      go true k = absurd (cc k)
      go false k = absurd (cc k)

  number_refused : (v r u : CType) → u ≡ type.Pointer t → result_converts at (number_type (decayed u) v r) u ≡ true → ⊥
  number_refused v r u e k = absurd (cc (subst (λ z. result_converts at (number_type (decayed z) v r) z ≡ true) e k))

  pointer_refused : (tags : Tags) (v : CType) → result_converts at (difference_type tags (type.Pointer t) v) (type.Pointer t) ≡ true → is_pointer v ≡ false
  pointer_refused tags (type.Pointer v) k = absurd (go (is_object_type tags t) (same_type t v) k)
    where
      go : (x y : Bool) → result_converts at (or_else (when (x && false) (type.Pointer t)) (when (x && y) type.Int)) (type.Pointer t) ≡ true → ⊥
      go true true k = absurd (cc k)
      go true false k = absurd (cc k)
      go false y k = absurd (cc k)
  pointer_refused tags v k = refl

module _ (occurs : Kind → Bool) (tags : Tags) (at : ℕ) where
  added : (x y : Bool) → x ≡ true → each occurs (where_wide (x || y) PointerArithmetic) ≡ true → occurs PointerArithmetic ≡ true
  added x y e k = where_told occurs (x || y) PointerArithmetic k (or_left x y e)

  taken : (x y : Bool) → x ≡ true → y ≡ false → each occurs (where_wide x (if y then PointerDifference else PointerArithmetic)) ≡ true → occurs PointerArithmetic ≡ true
  taken x true e f k = absurd (cc f)
  taken x false e f k = where_told occurs x PointerArithmetic k e

  update_told : (op : BinOp) (a b : Operand) (t : CType) → a.ty ≡ type.Pointer t → nat_lt 1 (words_of tags t) ≡ true → result_converts at (binary_type tags op a b) a.ty ≡ true → each occurs (pointer_kinds tags op (value_type a) (value_type b)) ≡ true → occurs PointerArithmetic ≡ true
  update_told binary.Or a b t e w k l = absurd (int_refused at t _ a.ty e k)
  update_told binary.And a b t e w k l = absurd (int_refused at t _ a.ty e k)
  update_told binary.Eq a b t e w k l = absurd (int_refused at t _ a.ty e k)
  update_told binary.Ne a b t e w k l = absurd (int_refused at t _ a.ty e k)
  update_told binary.Lt a b t e w k l = absurd (int_refused at t _ a.ty e k)
  update_told binary.Gt a b t e w k l = absurd (int_refused at t _ a.ty e k)
  update_told binary.Le a b t e w k l = absurd (int_refused at t _ a.ty e k)
  update_told binary.Ge a b t e w k l = absurd (int_refused at t _ a.ty e k)
  update_told binary.Add a b t e w k l =
      added (nat_lt 1 (words_of tags t)) (is_wide_pointer tags (value_type b)) w (subst (λ z. each occurs (pointer_kinds tags binary.Add (decayed z) (value_type b)) ≡ true) e l)
  update_told binary.Sub a b t e w k l =
      taken (nat_lt 1 (words_of tags t)) (is_pointer (value_type b)) w (pointer_refused at t tags (value_type b) (subst (λ z. result_converts at (difference_type tags (decayed z) (value_type b)) z ≡ true) e k))
      (subst (λ z. each occurs (pointer_kinds tags binary.Sub (decayed z) (value_type b)) ≡ true) e l)
  update_told op a b t e w k l = absurd (number_refused at t (value_type b) _ a.ty e k)

  -- an assignment with a sign to a wide pointer
  pub assigned_told : (op : BinOp) (a b : Operand) → result_converts at (binary_type tags op a b) a.ty ≡ true → each occurs (pointer_kinds tags op (value_type a) (value_type b)) ≡ true → is_wide_pointer tags a.ty ≡ true → occurs PointerArithmetic ≡ true
  assigned_told op a b k l w = go a.ty refl w
    where
      go : (t : CType) → a.ty ≡ t → is_wide_pointer tags t ≡ true → occurs PointerArithmetic ≡ true
      go (type.Pointer t) e w = update_told op a b t e w k l
      go t e w = absurd (cc w)
