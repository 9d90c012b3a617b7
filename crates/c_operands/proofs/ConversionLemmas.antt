-- What converts, as classes see it.
use Rattle.std.proofs.Common.{◌≡◌, ℕ, Bool, true, false, ◌&&◌, ◌||◌, Option, Some, None, refl, sym, ap, ◌∙◌, subst}
use Rattle.c_types.specs.Types as types
use Rattle.c_types.specs.Types.{CType, is_arithmetic, is_pointer, is_object_pointer, is_function_pointer, is_void_pointer, is_void, is_null, is_scalar, decayed, same_type}
use Rattle.c_types.specs.Laws.{EqualTypesAreOne}
use Rattle.c_types.specs.Operands as plain
use Rattle.c_types.specs.Operands.{value_type, is_null_constant}
use Rattle.c_operands.specs.declared.class.Class.{Class}
use Rattle.c_operands.specs.Classes.{class_of, number, pointer, object_pointer, void_pointer, function_pointer, void, null_type, scalar, classes_convert, classes_cast, classes_equal, classes_order}
use Rattle.c_operands.proofs.ClassLemmas.{ClassSays, class_says}

-- one order of the ways to convert and the other
regroup : (a p s l v w : Bool) → (a || (p && (s || l)) || v || w) ≡ (a || (p && s) || v || w || (l && p))
regroup true p s l v w = refl
regroup false true true l v w = refl
regroup false true false true true w = refl
regroup false true false true false true = refl
regroup false true false true false false = refl
regroup false true false false true w = refl
regroup false true false false false true = refl
regroup false true false false false false = refl
regroup false false s true true w = refl
regroup false false s true false true = refl
regroup false false s true false false = refl
regroup false false s false true w = refl
regroup false false s false false true = refl
regroup false false s false false false = refl

and2 : (a b c d : Bool) → a ≡ b → c ≡ d → (a && c) ≡ (b && d)
and2 a b c d e f = cc

or2 : (a b c d : Bool) → a ≡ b → c ≡ d → (a || c) ≡ (b || d)
or2 a b c d e f = cc

or4 : (a b c d k l m n : Bool) → a ≡ k → b ≡ l → c ≡ m → d ≡ n → (a || b || c || d) ≡ (k || l || m || n)
or4 a b c d k l m n e f g h = cc

pub converts_as_classes : (x : plain.Operand) (t : CType) → classes_convert (class_of (value_type x)) (is_null_constant x) (class_of t) (same_type (value_type x) t) ≡ plain.converts x t
converts_as_classes x t =
    let f = class_says (value_type x) in
    let g = class_says t in
    regroup (number (class_of (value_type x)) && number (class_of t)) (pointer (class_of t)) (same_type (value_type x) t) (is_null_constant x)
    (void_pointer (class_of (value_type x)) && object_pointer (class_of t)) (object_pointer (class_of (value_type x)) && void_pointer (class_of t))
    ∙ or2 _ _ _ _
    (or4 _ _ _ _ _ _ _ _
    (and2 _ _ _ _ (sym f.number) (sym g.number))
    (and2 _ _ _ _ (sym g.pointer) refl)
    (and2 _ _ _ _ (sym f.void_pointer) (sym g.object_pointer))
    (and2 _ _ _ _ (sym f.object_pointer) (sym g.void_pointer)))
    (and2 _ _ _ _ refl (sym g.pointer))

pub null_decayed : (t : CType) → is_null (decayed t) ≡ is_null t
null_decayed types.Void = refl
null_decayed types.Int = refl
null_decayed types.Unsigned = refl
null_decayed types.Char = refl
null_decayed types.UChar = refl
null_decayed types.Null = refl
null_decayed (types.Struct tag) = refl
null_decayed (types.Pointer t) = refl
null_decayed (types.Array t n) = refl
null_decayed (types.Function t ts) = refl

-- types are equal in either order
pub same_flip : EqualTypesAreOne → (t u : CType) → same_type t u ≡ same_type u t
same_flip equal t u = by (same_type t u) (same_type u t) refl refl where
  by : (x y : Bool) → same_type t u ≡ x → same_type u t ≡ y → x ≡ y
  by true true e f = refl
  by false false e f = refl
  by true false e f = let yes : same_type u t ≡ true = (equal u t).1 (sym ((equal t u).0 e)) in cc
  by false true e f = let yes : same_type t u ≡ true = (equal t u).1 (sym ((equal u t).0 f)) in cc

pub equal_as_classes : EqualTypesAreOne → (x y : plain.Operand) → classes_equal (class_of (value_type x)) (is_null_constant x) (class_of (value_type y)) (is_null_constant y) (same_type (value_type x) (value_type y)) ≡ plain.can_equal x y
equal_as_classes equal x y =
    let f = class_says (value_type x) in
    let g = class_says (value_type y) in
    let back = ap (λ s. classes_convert (class_of (value_type y)) (is_null_constant y) (class_of (value_type x)) s) (same_flip equal (value_type x) (value_type y)) ∙ converts_as_classes y (value_type x) in
    or4 _ _ _ _ _ _ _ _
    (and2 _ _ _ _ (sym f.number) (sym g.number))
    (and2 _ _ _ _ (sym f.pointer) back)
    (and2 _ _ _ _ (sym g.pointer) (converts_as_classes x (value_type y)))
    refl

-- the same with the tests at hand
pub converts_by : (a c : Class) (n s : Bool) (x : plain.Operand) (t : CType) → a ≡ class_of (value_type x) → n ≡ is_null_constant x → c ≡ class_of t → s ≡ same_type (value_type x) t → classes_convert a n c s ≡ plain.converts x t
converts_by a c n s x t e f g h =
    ap (λ k. classes_convert k n c s) e
    ∙ (ap (λ k. classes_convert (class_of (value_type x)) k c s) f
    ∙ (ap (λ k. classes_convert (class_of (value_type x)) (is_null_constant x) k s) g
    ∙ (ap (λ k. classes_convert (class_of (value_type x)) (is_null_constant x) (class_of t) k) h
    ∙ converts_as_classes x t)))

pub equal_by : EqualTypesAreOne → (a b : Class) (m n s : Bool) (x y : plain.Operand) → a ≡ class_of (value_type x) → m ≡ is_null_constant x → b ≡ class_of (value_type y) → n ≡ is_null_constant y → s ≡ same_type (value_type x) (value_type y)
    → classes_equal a m b n s ≡ plain.can_equal x y
equal_by equal a b m n s x y e f g h i =
    ap (λ k. classes_equal k m b n s) e
    ∙ (ap (λ k. classes_equal (class_of (value_type x)) k b n s) f
    ∙ (ap (λ k. classes_equal (class_of (value_type x)) (is_null_constant x) k n s) g
    ∙ (ap (λ k. classes_equal (class_of (value_type x)) (is_null_constant x) (class_of (value_type y)) k s) h
    ∙ (ap (λ k. classes_equal (class_of (value_type x)) (is_null_constant x) (class_of (value_type y)) (is_null_constant y) k) i
    ∙ equal_as_classes equal x y))))
