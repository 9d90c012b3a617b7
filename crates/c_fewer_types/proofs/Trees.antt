-- What stands for an operator gives what the operator gave.
use Rattle.std.proofs.Common.{◌≡◌, ℕ, List, [], ◌∷◌, ◌++◌, Option, Some, None, Bool, true, false, refl, sym, ap, ap₂, ◌∙◌, subst, inl, inr}
use Rattle.std.specs.Prelude.{◌-◌, ◌^◌, ◌||◌, not, is_some, Ok, Err, if◌then◌else◌, codes}
use Rattle.std.specs.Option.{option_map, option_map_or}
use Rattle.c_syntax.specs.Plain as plain
use Rattle.c_syntax.specs.Plain.{CExpr, CExprs}
use Rattle.c_syntax.specs.declared.tree.UnOp.{UnOp}
use Rattle.c_syntax.specs.declared.tree.StepOp.{StepOp}
use Rattle.c_syntax.specs.declared.tree.BinOp.{BinOp}
use Rattle.c_syntax.specs.declared.tree.UnOp.TheVariants as unary
use Rattle.c_syntax.specs.declared.tree.StepOp.TheVariants as step
use Rattle.c_syntax.specs.declared.tree.BinOp.TheVariants as binary
use Rattle.c_types.specs.declared.fault.TypeFault.TheVariants as fault
use Rattle.c_types.specs.Constants.{Constant, binary_constant, unary_constant}
use Rattle.c_types.specs.Types as type
use Rattle.c_types.specs.Types.{CType, CTypes, NoType, MoreType, Tags, is_arithmetic, is_pointer, is_unsigned, is_object_pointer, is_scalar, decayed, promoted}
use Rattle.c_types.specs.Refusals.{Judged, after, both}
use Rattle.c_types.specs.Scope.{Scope}
use Rattle.c_types.specs.Operands.{Other, Operand, operand, value_at, value_type, is_place, converts, sum_type, binary_type, typed_or, either_unsigned, unary_operand, step_operand, binary_operand, assign_operand, index_operand, pointed_operand}
use Rattle.c_types.specs.Expressions.{literal, judged}
use Rattle.c_types.specs.Room.{is_wide_pointer}
use Rattle.c_alike.specs.Alike.{EachName}
use Rattle.c_fewer_types.specs.AsGood.{IsAsGood, JudgedAsGood}
use Rattle.c_fewer_types.proofs.AsGoodRules.{rules_take_as_good}
use Rattle.c_fewer_types.specs.Written.{CanBeWritten, OperandCanBeWritten}
use Rattle.c_eval.specs.Operators.{element_words}
use Rattle.c_helpers.specs.Terms.{number}
use Rattle.c_helpers.specs.Fewer.{sign_of, kind_word, words_in, words_back, words_by, helper_call, as_type, address_at, moved_pointer, moved_place, sum_tree, difference_tree, plain_operator, operator_tree, plain_assignment, assignment_tree, wide_step, step_tree, element_tree}
use Rattle.c_fewer_types.specs.Stands.{helper_type, NameStands}
use Rattle.c_fewer_types.proofs.Judged.{moved, refused_good, IsOf, typed_good, keeping_is, first_kept}
use Rattle.c_fewer_types.proofs.Calls.{number_converts, object_converts, scalar_pointer, number_can, number_cast, pointer_cast, one_called, two_called, three_called, cast_is, address_judged}
use Rattle.c_fewer_types.proofs.Rules.{typed_told, OfNumber, wide_sum, wide_sum_right, pointers_taken, number_taken, promoted_number, sign_takes, assigned, scalar_same, pointer_assigned, stepped, some_of, wide_is}

-- ---- the heads of operators' functions

-- of two numbers, which gives a number
record OfTwo (name : List ℕ) : Type 0 where
  result : CType
  left : CType
  right : CType
  known : helper_type name ≡ Some (type.Function result (MoreType left (MoreType right NoType)))
  of_left : is_arithmetic left ≡ true
  of_right : is_arithmetic right ≡ true
  of_result : is_arithmetic (decayed result) ≡ true

-- of a place and a number
record OfPlace (name : List ℕ) : Type 0 where
  known : helper_type name ≡ Some (type.Function type.Int (MoreType (type.Pointer type.Void) (MoreType type.Int NoType)))

abbrev Both : List ℕ → Type 0
Both sign = OfTwo sign × OfPlace (sign ++ codes "=")

the_same : (name sign : List ℕ) → Both name → Some name ≡ Some sign → Both sign
the_same name sign p e = let same : name ≡ sign = cc e in subst (λ z. Both z) same p

ints : (name : List ℕ) → helper_type name ≡ Some (type.Function type.Int (MoreType type.Int (MoreType type.Int NoType))) → OfTwo name
ints name e = record { result = type.Int; left = type.Int; right = type.Int; known = e; of_left = refl; of_right = refl; of_result = refl }

unsigneds : (name : List ℕ) → helper_type name ≡ Some (type.Function type.Unsigned (MoreType type.Unsigned (MoreType type.Unsigned NoType))) → OfTwo name
unsigneds name e = record { result = type.Unsigned; left = type.Unsigned; right = type.Unsigned; known = e; of_left = refl; of_right = refl; of_result = refl }

sign_heads : (op : BinOp) (unsigned : Bool) (sign : List ℕ) → sign_of op unsigned ≡ Some sign → Both sign
sign_heads binary.Mul u sign e = the_same (codes "*") sign (ints (codes "*") refl, record { known = refl }) e
sign_heads binary.Div true sign e = the_same (codes "unsigned /") sign (unsigneds (codes "unsigned /") refl, record { known = refl }) e
sign_heads binary.Div false sign e = the_same (codes "int /") sign (ints (codes "int /") refl, record { known = refl }) e
sign_heads binary.Mod true sign e = the_same (codes "unsigned %") sign (unsigneds (codes "unsigned %") refl, record { known = refl }) e
sign_heads binary.Mod false sign e = the_same (codes "int %") sign (ints (codes "int %") refl, record { known = refl }) e
sign_heads binary.BitAnd u sign e = the_same (codes "&") sign (ints (codes "&") refl, record { known = refl }) e
sign_heads binary.BitOr u sign e = the_same (codes "|") sign (ints (codes "|") refl, record { known = refl }) e
sign_heads binary.BitXor u sign e = the_same (codes "^") sign (ints (codes "^") refl, record { known = refl }) e
sign_heads binary.Shl u sign e = the_same (codes "<<") sign (ints (codes "<<") refl, record { known = refl }) e
sign_heads binary.Shr true sign e =
    the_same (codes "unsigned >>") sign (record { result = type.Unsigned; left = type.Unsigned; right = type.Int; known = refl; of_left = refl; of_right = refl; of_result = refl }, record { known = refl }) e
sign_heads binary.Shr false sign e = the_same (codes "int >>") sign (ints (codes "int >>") refl, record { known = refl }) e
sign_heads op u sign e = absurd (cc e)

-- of a wide pointer, a number and the words of an element
record OfThree (name : List ℕ) (p q : CType) : Type 0 where
  known : helper_type name ≡ Some (type.Function (type.Pointer type.Void) (MoreType p (MoreType q (MoreType type.Int NoType))))

-- a type that counts as it says
abbrev kind : Bool → CType
kind unsigned = if unsigned then type.Unsigned else type.Int

kind_number : (unsigned : Bool) → is_arithmetic (kind unsigned) ≡ true
kind_number true = refl
kind_number false = refl

sum_head : (unsigned : Bool) → OfThree (codes "pointer + " ++ kind_word unsigned) (type.Pointer type.Void) (kind unsigned)
sum_head true = record { known = refl }
sum_head false = record { known = refl }

swapped_head : (unsigned : Bool) → OfThree (kind_word unsigned ++ codes " + pointer") (kind unsigned) (type.Pointer type.Void)
swapped_head true = record { known = refl }
swapped_head false = record { known = refl }

moving_head : (unsigned : Bool) → OfThree (codes "pointer += " ++ kind_word unsigned) (type.Pointer type.Void) (kind unsigned)
moving_head true = record { known = refl }
moving_head false = record { known = refl }

-- ---- operands and what stands for them

-- an operand of the text, and the expression that stands for it
pub record Stands (s s' : Scope) (a : CExpr) (x : Operand) : Type 0 where
  pub other : Operand
  pub is : judged s' a ≡ Ok other
  pub good : IsAsGood x other
  pub can : OperandCanBeWritten s.tags x

-- a value's type can be written where an operand's can
value_can : (tags : Tags) (t : CType) → CanBeWritten tags t → CanBeWritten tags (decayed t)
value_can tags (type.Array t n) c = c.2
value_can tags type.Void c = tt
value_can tags type.Int c = tt
value_can tags type.Unsigned c = tt
value_can tags type.Char c = tt
value_can tags type.UChar c = tt
value_can tags type.Null c = c
value_can tags (type.Struct tag) c = c
value_can tags (type.Pointer t) c = c
value_can tags (type.Function t ts) c = c

module _ (s s' : Scope) (tags : s.tags ≡ s'.tags) where
  abbrev P : List ℕ → Type 0
  P = NameStands s s'

  abbrev Good : Judged Operand → CExpr → Type 0
  Good r e = JudgedAsGood r (judged s' e)

  if_good : (r : Judged Operand) (b : Bool) (e f : CExpr) → EachName P (if b then e else f) → (b ≡ true → EachName P e → Good r e) → (b ≡ false → EachName P f → Good r f) → Good r (if b then e else f)
  if_good r true e f p g h = g refl p
  if_good r false e f p g h = h refl p

  pointer_can : (x : Operand) (t : CType) → OperandCanBeWritten s.tags x → value_type x ≡ t → is_object_pointer t ≡ true → CanBeWritten s'.tags t
  pointer_can x t (inl c) e p = subst (λ z. CanBeWritten z t) tags (subst (λ z. CanBeWritten s.tags z) e (value_can s.tags x.ty c))
  pointer_can x t (inr n) e p =
      let null : type.Null ≡ t = sym (ap decayed n.0) ∙ e in
      absurd (cc (ap is_object_pointer null ∙ p))

  -- a wide pointer on the left, and a number
  moved_is : (at : ℕ) (t u : CType) (unsigned : Bool) (a b : CExpr) (n : ℕ) (x' y' : Operand) → judged s' a ≡ Ok x' → judged s' b ≡ Ok y' → value_type x' ≡ t → value_type y' ≡ u → is_object_pointer t ≡ true → is_arithmetic u ≡ true
      → CanBeWritten s'.tags t → P (codes "pointer + " ++ kind_word unsigned) → IsOf (judged s' (moved_pointer at t unsigned a b (number n))) t
  moved_is at t u unsigned a b n x' y' e f k l o m c p =
      cast_is s s' at t (type.Pointer type.Void) (helper_call at (codes "pointer + " ++ kind_word unsigned) (a ∷ b ∷ number n ∷ []))
      (three_called s s' at (codes "pointer + " ++ kind_word unsigned) (type.Pointer type.Void) (type.Pointer type.Void) (kind unsigned) type.Int a b (number n) x' y' (literal 0 n false) (sum_head unsigned).known p e f refl
      (object_converts x' (ap is_object_pointer k ∙ o)) (number_converts y' (kind unsigned) (ap is_arithmetic l ∙ m) (kind_number unsigned)) refl)
      c (pointer_cast t o)

  -- the pair of operands of a tree
  module _ (at : ℕ) (a b : CExpr) (x y : Operand) (left : Stands s s' a x) (right : Stands s s' b y) where
    abbrev T : CType
    T = value_type x

    abbrev U : CType
    U = value_type y

    left_type : value_type left.other ≡ T
    left_type = sym (ap decayed left.good.ty)

    right_type : value_type right.other ≡ U
    right_type = sym (ap decayed right.good.ty)

    -- an operator that stays
    stays : (op : BinOp) → Good (binary_operand s.tags at op x y) (plain.Binary at op a b)
    stays op =
        moved (binary_operand s.tags at op x y) (judged s' (plain.Binary at op a b)) (binary_operand s'.tags at op left.other right.other) (ap₂ (λ r q. both {A = Operand} {B = Operand} r q (λ x y. binary_operand s'.tags at op x y)) left.is right.is)
        (subst (λ z. JudgedAsGood (binary_operand s.tags at op x y) (binary_operand z at op left.other right.other)) tags (rules_take_as_good.binary s.tags at at op x left.other y right.other left.good right.good))

    -- what an operator gave has the type that is told
    told : (op : BinOp) (z : Operand) → binary_operand s.tags at op x y ≡ Ok z → (binary_type s.tags op x y ≡ Some z.ty) × (z.sort ≡ Other)
    told op z e = typed_told at (binary_constant at op (is_unsigned T) (either_unsigned x y) x.constant y.constant) (binary_type s.tags op x y) z e

    moved_left : (op : BinOp) (n : ℕ) → EachName P (moved_pointer at T (is_unsigned U) a b (number n)) → ((r : CType) → binary_type s.tags op x y ≡ Some r → OfNumber s.tags T U r) → Good (binary_operand s.tags at op x y) (moved_pointer at T (is_unsigned U) a b (number n))
    moved_left op n p f =
        typed_good (binary_operand s.tags at op x y) (judged s' (moved_pointer at T (is_unsigned U) a b (number n)))
        (λ z e.
        let k = told op z e in
        let m = f z.ty k.0 in (
          k.1,
          subst (λ t. IsOf (judged s' (moved_pointer at T (is_unsigned U) a b (number n))) t) (sym m.result)
              (moved_is at T U (is_unsigned U) a b n left.other right.other left.is right.is left_type right_type m.pointer m.number (pointer_can x T left.can refl m.pointer) p.1.0),
        ))

    swapped : EachName P (as_type at U (helper_call at (kind_word (is_unsigned T) ++ codes " + pointer") (a ∷ b ∷ words_in s.tags U ∷ []))) → is_wide_pointer s.tags U ≡ true
        → Good (binary_operand s.tags at binary.Add x y) (as_type at U (helper_call at (kind_word (is_unsigned T) ++ codes " + pointer") (a ∷ b ∷ words_in s.tags U ∷ [])))
    swapped p w =
        typed_good (binary_operand s.tags at binary.Add x y) (judged s' (as_type at U (helper_call at (kind_word (is_unsigned T) ++ codes " + pointer") (a ∷ b ∷ words_in s.tags U ∷ []))))
        (λ z e.
        let k = told binary.Add z e in
        let m = wide_sum_right s.tags T U z.ty w k.0 in (
          k.1,
          subst (λ t. IsOf (judged s' (as_type at U (helper_call at (kind_word (is_unsigned T) ++ codes " + pointer") (a ∷ b ∷ words_in s.tags U ∷ [])))) t) (sym m.result)
              (cast_is s s' at U (type.Pointer type.Void) (helper_call at (kind_word (is_unsigned T) ++ codes " + pointer") (a ∷ b ∷ words_in s.tags U ∷ []))
              (three_called s s' at (kind_word (is_unsigned T) ++ codes " + pointer") (type.Pointer type.Void) (kind (is_unsigned T)) (type.Pointer type.Void) type.Int a b (words_in s.tags U) left.other right.other (literal 0 (element_words s.tags U) false) (swapped_head (is_unsigned T)).known p.1.0 left.is right.is refl
              (number_converts left.other (kind (is_unsigned T)) (ap is_arithmetic left_type ∙ m.number) (kind_number (is_unsigned T))) (object_converts right.other (ap is_object_pointer right_type ∙ m.pointer)) refl)
              (pointer_can y U right.can refl m.pointer) (pointer_cast U m.pointer)),
        ))

    pub sum_good : EachName P (sum_tree s.tags at T U a b) → Good (binary_operand s.tags at binary.Add x y) (sum_tree s.tags at T U a b)
    sum_good p =
        if_good (binary_operand s.tags at binary.Add x y) (is_wide_pointer s.tags T) (moved_pointer at T (is_unsigned U) a b (words_in s.tags T))
        (if is_wide_pointer s.tags U then as_type at U (helper_call at (kind_word (is_unsigned T) ++ codes " + pointer") (a ∷ b ∷ words_in s.tags U ∷ [])) else plain.Binary at binary.Add a b) p
        (λ w q. moved_left binary.Add (element_words s.tags T) q (λ r e. wide_sum s.tags T U r w e))
        (λ w q. if_good (binary_operand s.tags at binary.Add x y) (is_wide_pointer s.tags U) (as_type at U (helper_call at (kind_word (is_unsigned T) ++ codes " + pointer") (a ∷ b ∷ words_in s.tags U ∷ []))) (plain.Binary at binary.Add a b) q
        (λ v o. swapped o v) (λ v o. stays binary.Add))

    between : EachName P (helper_call at (codes "pointer - pointer") (a ∷ b ∷ words_in s.tags T ∷ [])) → is_wide_pointer s.tags T ≡ true → is_pointer U ≡ true
        → Good (binary_operand s.tags at binary.Sub x y) (helper_call at (codes "pointer - pointer") (a ∷ b ∷ words_in s.tags T ∷ []))
    between p w v =
        typed_good (binary_operand s.tags at binary.Sub x y) (judged s' (helper_call at (codes "pointer - pointer") (a ∷ b ∷ words_in s.tags T ∷ [])))
        (λ z e.
        let k = told binary.Sub z e in
        let m = pointers_taken s.tags T U z.ty w v k.0 in (
          k.1,
          record {
            what = value_at at type.Int;
            is =
                three_called s s' at (codes "pointer - pointer") type.Int (type.Pointer type.Void) (type.Pointer type.Void) type.Int a b (words_in s.tags T) left.other right.other (literal 0 (element_words s.tags T) false) refl p.0 left.is right.is refl
                (object_converts left.other (ap is_object_pointer left_type ∙ m.left)) (object_converts right.other (ap is_object_pointer right_type ∙ m.right)) refl;
            ty = m.result;
            sort = refl;
          },
        ))

    pub difference_good : EachName P (difference_tree s.tags at T U a b) → Good (binary_operand s.tags at binary.Sub x y) (difference_tree s.tags at T U a b)
    difference_good p =
        if_good (binary_operand s.tags at binary.Sub x y) (not (is_wide_pointer s.tags T)) (plain.Binary at binary.Sub a b)
        (if is_pointer U then helper_call at (codes "pointer - pointer") (a ∷ b ∷ words_in s.tags T ∷ []) else moved_pointer at T (is_unsigned U) a b (words_back s.tags T)) p
        (λ w q. stays binary.Sub)
        (λ w q. if_good (binary_operand s.tags at binary.Sub x y) (is_pointer U) (helper_call at (codes "pointer - pointer") (a ∷ b ∷ words_in s.tags T ∷ [])) (moved_pointer at T (is_unsigned U) a b (words_back s.tags T)) q
        (λ v o. between o (negated (is_wide_pointer s.tags T) w) v) (λ v o. moved_left binary.Sub (2 ^ 24 - element_words s.tags T) o (λ r e. number_taken s.tags T U r (negated (is_wide_pointer s.tags T) w) v e)))
      where
        negated : (b : Bool) → not b ≡ false → b ≡ true
        negated true e = refl
        negated false e = absurd (cc e)

    -- an operator of which no function stands on words
    plain_good : (op : BinOp) → EachName P (plain_operator s.tags at op T U a b) → Good (binary_operand s.tags at op x y) (plain_operator s.tags at op T U a b)
    plain_good binary.Add p = sum_good p
    plain_good binary.Sub p = difference_good p
    plain_good op p = stays op

    pub operator_good : (op : BinOp) (unsigned : Bool) (o : Option (List ℕ)) (result : CType) → sign_of op unsigned ≡ o → ((z : Operand) → binary_operand s.tags at op x y ≡ Ok z → result ≡ z.ty) → EachName P (operator_tree s.tags at o op result T U a b)
        → Good (binary_operand s.tags at op x y) (operator_tree s.tags at o op result T U a b)
    operator_good op unsigned None result k f p = plain_good op p
    operator_good op unsigned (Some sign) result k f p =
        typed_good (binary_operand s.tags at op x y) (judged s' (as_type at result (helper_call at sign (a ∷ b ∷ []))))
        (λ z e.
        let l = told op z e in
        let n = sign_takes s.tags op unsigned sign x y z.ty k l.0 in
        let h = (sign_heads op unsigned sign k).0 in
        let number : is_arithmetic result ≡ true = ap is_arithmetic (f z e) ∙ n.result in (
          l.1,
          subst (λ t. IsOf (judged s' (as_type at result (helper_call at sign (a ∷ b ∷ [])))) t) (f z e)
              (cast_is s s' at result h.result (helper_call at sign (a ∷ b ∷ []))
              (two_called s s' at sign h.result h.left h.right a b left.other right.other h.known p.1.0 left.is right.is (number_converts left.other h.left (ap is_arithmetic left_type ∙ n.left) h.of_left) (number_converts right.other h.right (ap is_arithmetic right_type ∙ n.right) h.of_right))
              (number_can s'.tags result number) (number_cast (decayed h.result) result h.of_result number)),
        ))

    -- ---- elements

    index_stays : Good (index_operand s.tags at x y) (plain.Index at a b)
    index_stays =
        moved (index_operand s.tags at x y) (judged s' (plain.Index at a b)) (index_operand s'.tags at left.other right.other) (ap₂ (λ r q. both {A = Operand} {B = Operand} r q (λ x y. index_operand s'.tags at x y)) left.is right.is)
        (subst (λ z. JudgedAsGood (index_operand s.tags at x y) (index_operand z at left.other right.other)) tags (rules_take_as_good.index s.tags at at x left.other y right.other left.good right.good))

    abbrev element : CExpr
    element = plain.Unary at unary.Deref (sum_tree s.tags at T U a b)

    abbrev sum_constant : Constant
    sum_constant = binary_constant at binary.Add (is_unsigned T) (either_unsigned x y) x.constant y.constant

    -- what the sum points to
    pointed : (r : CType) → sum_type s.tags T U ≡ Some r → EachName P (sum_tree s.tags at T U a b) → Good (pointed_operand s.tags at r) element
    pointed (type.Pointer t) e p =
        let k = sum_good p (operand at (type.Pointer t) Other sum_constant) (ap (λ o. typed_or at (option_map (λ t. operand at t Other sum_constant) o)) e) in
        moved (pointed_operand s.tags at (type.Pointer t)) (judged s' element) (unary_operand s'.tags at unary.Deref k.0) (ap (λ r. after {A = Operand} r (λ x. unary_operand s'.tags at unary.Deref x)) k.1)
        (subst (λ z. JudgedAsGood (pointed_operand s.tags at (type.Pointer t)) (unary_operand z at unary.Deref k.0)) tags (rules_take_as_good.unary s.tags at at unary.Deref (operand at (type.Pointer t) Other sum_constant) k.0 k.2))
    pointed r e p = refused_good (judged s' element) (fault.Mismatch at)

    element_pointed : EachName P (sum_tree s.tags at T U a b) → Good (index_operand s.tags at x y) element
    element_pointed p = go (sum_type s.tags T U) refl
      where
        go : (o : Option CType) → sum_type s.tags T U ≡ o → Good (option_map_or (λ t. pointed_operand s.tags at t) o (Err (fault.Mismatch at))) element
        go None e = refused_good (judged s' element) (fault.Mismatch at)
        go (Some r) e = pointed r e p

    pub element_good : EachName P (element_tree s.tags at T U a b) → Good (index_operand s.tags at x y) (element_tree s.tags at T U a b)
    element_good p =
        if_good (index_operand s.tags at x y) (is_wide_pointer s.tags T || is_wide_pointer s.tags U) element (plain.Index at a b) p (λ w q. element_pointed q) (λ w q. index_stays)

    -- ---- assignments with an operator

    assign_stays : (op : BinOp) → Good (assign_operand s.tags at (Some op) x y) (plain.Assign at (Some op) a b)
    assign_stays op =
        moved (assign_operand s.tags at (Some op) x y) (judged s' (plain.Assign at (Some op) a b)) (assign_operand s'.tags at (Some op) left.other right.other)
        (ap₂ (λ r q. both {A = Operand} {B = Operand} r q (λ x y. assign_operand s'.tags at (Some op) x y)) left.is right.is)
        (subst (λ z. JudgedAsGood (assign_operand s.tags at (Some op) x y) (assign_operand z at (Some op) left.other right.other)) tags (rules_take_as_good.assign s.tags at at (Some op) x left.other y right.other left.good right.good))

    -- the place that is handed on
    place_judged : is_place x.sort ≡ true → judged s' (address_at at a) ≡ Ok (value_at at (type.Pointer left.other.ty))
    place_judged k = address_judged s s' at a left.other left.is (sym left.good.place ∙ k)

    place_converts : is_scalar x.ty ≡ true → converts (value_at at (type.Pointer left.other.ty)) (type.Pointer type.Void) ≡ true
    place_converts k = object_converts (value_at at (type.Pointer left.other.ty)) (scalar_pointer left.other.ty (sym (ap is_scalar left.good.ty) ∙ k))

    -- the pointer at a place is moved by a number
    moved_place_is : (unsigned : Bool) (c : CExpr) (n : ℕ) (w : Operand) → judged s' c ≡ Ok w → is_arithmetic (value_type w) ≡ true → is_place x.sort ≡ true → is_scalar x.ty ≡ true → is_object_pointer x.ty ≡ true → P (codes "pointer += " ++ kind_word unsigned)
        → IsOf (judged s' (moved_place at x.ty unsigned a c (number n))) x.ty
    moved_place_is unsigned c n w e m k l o p =
        cast_is s s' at x.ty (type.Pointer type.Void) (helper_call at (codes "pointer += " ++ kind_word unsigned) (address_at at a ∷ c ∷ number n ∷ []))
        (three_called s s' at (codes "pointer += " ++ kind_word unsigned) (type.Pointer type.Void) (type.Pointer type.Void) (kind unsigned) type.Int (address_at at a) c (number n) (value_at at (type.Pointer left.other.ty)) w (literal 0 n false) (moving_head unsigned).known p (place_judged k) e refl
        (place_converts l) (number_converts w (kind unsigned) m (kind_number unsigned)) refl)
        (pointer_can x x.ty left.can (scalar_same x.ty l) o) (pointer_cast x.ty o)

    words_by_number : (op : BinOp) → (n : ℕ) × (words_by op s.tags x.ty ≡ number n)
    words_by_number binary.Sub = (2 ^ 24 - element_words s.tags x.ty, refl)
    words_by_number op = (element_words s.tags x.ty, refl)

    moved_assignment : (op : BinOp) → is_wide_pointer s.tags x.ty ≡ true → EachName P (moved_place at x.ty (is_unsigned U) a b (words_by op s.tags x.ty)) → Good (assign_operand s.tags at (Some op) x y) (moved_place at x.ty (is_unsigned U) a b (words_by op s.tags x.ty))
    moved_assignment op w p =
        let n = words_by_number op in
        subst (λ c. Good (assign_operand s.tags at (Some op) x y) (moved_place at x.ty (is_unsigned U) a b c)) (sym n.1)
        (typed_good (assign_operand s.tags at (Some op) x y) (judged s' (moved_place at x.ty (is_unsigned U) a b (number n.0)))
        (λ z e.
        let k = assigned s.tags at op x y z e in
        let i = wide_is s.tags x.ty w in
        let same : value_type x ≡ type.Pointer i.0 = scalar_same x.ty k.scalar ∙ i.1 in
        let m = pointer_assigned s.tags at x y i.0 same op k.result k.gives (subst (λ t. converts (value_at at k.result) t ≡ true) i.1 k.converts) in (
          ap (λ o. o.sort) k.is,
          subst (λ t. IsOf (judged s' (moved_place at x.ty (is_unsigned U) a b (number n.0))) t) (sym (ap (λ o. o.ty) k.is))
              (moved_place_is (is_unsigned U) b n.0 right.other right.is (ap is_arithmetic right_type ∙ m.0) k.place k.scalar (ap is_object_pointer i.1 ∙ m.1) p.1.0),
        )))

    plain_assigned : (op : BinOp) → EachName P (plain_assignment s.tags at op x.ty U a b) → Good (assign_operand s.tags at (Some op) x y) (plain_assignment s.tags at op x.ty U a b)
    plain_assigned op p =
        if_good (assign_operand s.tags at (Some op) x y) (is_wide_pointer s.tags x.ty) (moved_place at x.ty (is_unsigned U) a b (words_by op s.tags x.ty)) (plain.Assign at (Some op) a b) p (λ w q. moved_assignment op w q) (λ w q. assign_stays op)

    pub assignment_good : (op : BinOp) (unsigned : Bool) (o : Option (List ℕ)) → sign_of op unsigned ≡ o → EachName P (assignment_tree s.tags at o op x.ty U a b) → Good (assign_operand s.tags at (Some op) x y) (assignment_tree s.tags at o op x.ty U a b)
    assignment_good op unsigned None k p = plain_assigned op p
    assignment_good op unsigned (Some sign) k p =
        typed_good (assign_operand s.tags at (Some op) x y) (judged s' (as_type at x.ty (helper_call at (sign ++ codes "=") (address_at at a ∷ b ∷ []))))
        (λ z e.
        let l = assigned s.tags at op x y z e in
        let n = sign_takes s.tags op unsigned sign x y l.result k l.gives in
        let h = (sign_heads op unsigned sign k).1 in
        let number : is_arithmetic x.ty ≡ true = sym (ap is_arithmetic (scalar_same x.ty l.scalar)) ∙ n.left in (
          ap (λ o. o.sort) l.is,
          subst (λ t. IsOf (judged s' (as_type at x.ty (helper_call at (sign ++ codes "=") (address_at at a ∷ b ∷ [])))) t) (sym (ap (λ o. o.ty) l.is))
              (cast_is s s' at x.ty type.Int (helper_call at (sign ++ codes "=") (address_at at a ∷ b ∷ []))
              (two_called s s' at (sign ++ codes "=") type.Int (type.Pointer type.Void) type.Int (address_at at a) b (value_at at (type.Pointer left.other.ty)) right.other h.known p.1.0 (place_judged l.place) right.is (place_converts l.scalar) (number_converts right.other type.Int (ap is_arithmetic right_type ∙ n.right) refl))
              (number_can s'.tags x.ty number) (number_cast type.Int x.ty refl number)),
        ))

  -- ---- steps

  module _ (at : ℕ) (a : CExpr) (x : Operand) (left : Stands s s' a x) where
    step_stays : (op : StepOp) → Good (step_operand s.tags at x) (plain.Step at op a)
    step_stays op =
        moved (step_operand s.tags at x) (judged s' (plain.Step at op a)) (step_operand s'.tags at left.other) (ap (λ r. after {A = Operand} r (λ x. step_operand s'.tags at x)) left.is)
        (subst (λ z. JudgedAsGood (step_operand s.tags at x) (step_operand z at left.other)) tags (rules_take_as_good.step s.tags at at x left.other left.good))

    -- an operator of one operand
    pub unary_stays : (op : UnOp) → Good (unary_operand s.tags at op x) (plain.Unary at op a)
    unary_stays op =
        moved (unary_operand s.tags at op x) (judged s' (plain.Unary at op a)) (unary_operand s'.tags at op left.other) (ap (λ r. after {A = Operand} r (λ x. unary_operand s'.tags at op x)) left.is)
        (subst (λ z. JudgedAsGood (unary_operand s.tags at op x) (unary_operand z at op left.other)) tags (rules_take_as_good.unary s.tags at at op x left.other left.good))

    -- where the place is one of a wide pointer
    wide_place : (e : CExpr) → is_wide_pointer s.tags x.ty ≡ true → (is_place x.sort ≡ true → is_scalar x.ty ≡ true → is_object_pointer x.ty ≡ true → IsOf (judged s' e) x.ty) → Good (step_operand s.tags at x) e
    wide_place e w f =
        typed_good (step_operand s.tags at x) (judged s' e)
        (λ z k.
        let l = stepped s.tags at x z k in
        let same : value_type x ≡ x.ty = scalar_same x.ty l.scalar in
        let r = some_of (sum_type s.tags x.ty type.Int) (subst (λ t. is_some (sum_type s.tags t type.Int) ≡ true) same l.sum) in
        let m = wide_sum s.tags x.ty type.Int r.0 w r.1 in
        (ap (λ o. o.sort) l.is, subst (λ t. IsOf (judged s' e) t) (sym (ap (λ o. o.ty) l.is ∙ same)) (f l.place l.scalar m.pointer)))

    -- which gives what it was
    behind_is : (n : ℕ) → P (codes "pointer++") → is_place x.sort ≡ true → is_scalar x.ty ≡ true → is_object_pointer x.ty ≡ true → IsOf (judged s' (as_type at x.ty (helper_call at (codes "pointer++") (address_at at a ∷ number n ∷ [])))) x.ty
    behind_is n p k l o =
        cast_is s s' at x.ty (type.Pointer type.Void) (helper_call at (codes "pointer++") (address_at at a ∷ number n ∷ []))
        (two_called s s' at (codes "pointer++") (type.Pointer type.Void) (type.Pointer type.Void) type.Int (address_at at a) (number n) (value_at at (type.Pointer left.other.ty)) (literal 0 n false) refl p
        (place_judged at a a x x left left k) refl (place_converts at a a x x left left l) refl)
        (pointer_can x x.ty left.can (scalar_same x.ty l) o) (pointer_cast x.ty o)

    before_is : (n : ℕ) → P (codes "pointer += int") → is_place x.sort ≡ true → is_scalar x.ty ≡ true → is_object_pointer x.ty ≡ true → IsOf (judged s' (moved_place at x.ty false a (number 1) (number n))) x.ty
    before_is n p k l o = moved_place_is at a a x x left left false (number 1) n (literal 0 1 false) refl refl k l o p

    wide_good : (op : StepOp) → is_wide_pointer s.tags x.ty ≡ true → EachName P (wide_step s.tags at op x.ty a) → Good (step_operand s.tags at x) (wide_step s.tags at op x.ty a)
    wide_good step.PreInc w p = wide_place (moved_place at x.ty false a (number 1) (words_in s.tags x.ty)) w (λ k l o. before_is (element_words s.tags x.ty) p.1.0 k l o)
    wide_good step.PreDec w p = wide_place (moved_place at x.ty false a (number 1) (words_back s.tags x.ty)) w (λ k l o. before_is (2 ^ 24 - element_words s.tags x.ty) p.1.0 k l o)
    wide_good step.PostInc w p = wide_place (as_type at x.ty (helper_call at (codes "pointer++") (address_at at a ∷ words_in s.tags x.ty ∷ []))) w (λ k l o. behind_is (element_words s.tags x.ty) p.1.0 k l o)
    wide_good step.PostDec w p = wide_place (as_type at x.ty (helper_call at (codes "pointer++") (address_at at a ∷ words_back s.tags x.ty ∷ []))) w (λ k l o. behind_is (2 ^ 24 - element_words s.tags x.ty) p.1.0 k l o)

    pub step_good : (op : StepOp) → EachName P (step_tree s.tags at op x.ty a) → Good (step_operand s.tags at x) (step_tree s.tags at op x.ty a)
    step_good op p = if_good (step_operand s.tags at x) (is_wide_pointer s.tags x.ty) (wide_step s.tags at op x.ty a) (plain.Step at op a) p (λ w q. wide_good op w q) (λ w q. step_stays op)

    -- the complement of a number
    pub invert_good : (result : CType) → ((z : Operand) → unary_operand s.tags at unary.Invert x ≡ Ok z → result ≡ z.ty) → P (codes "~") → Good (unary_operand s.tags at unary.Invert x) (as_type at result (helper_call at (codes "~") (a ∷ [])))
    invert_good result f p =
        typed_good (unary_operand s.tags at unary.Invert x) (judged s' (as_type at result (helper_call at (codes "~") (a ∷ []))))
        (λ z e.
        let k = keeping_is ((is_arithmetic (value_type x), fault.Mismatch at) ∷ []) (operand at (promoted (value_type x)) Other (unary_constant unary.Invert x.constant)) z e in
        let l = first_kept (is_arithmetic (value_type x)) (fault.Mismatch at) [] k.0 in
        let number : is_arithmetic result ≡ true = ap is_arithmetic (f z e ∙ sym (ap (λ o. o.ty) k.1)) ∙ promoted_number (value_type x) in (
          sym (ap (λ o. o.sort) k.1),
          subst (λ t. IsOf (judged s' (as_type at result (helper_call at (codes "~") (a ∷ [])))) t) (f z e)
              (cast_is s s' at result type.Int (helper_call at (codes "~") (a ∷ []))
              (one_called s s' at (codes "~") type.Int type.Int a left.other refl p left.is (number_converts left.other type.Int (ap is_arithmetic (sym (ap decayed left.good.ty)) ∙ l.0) refl))
              (number_can s'.tags result number) (number_cast type.Int result refl number)),
        ))
