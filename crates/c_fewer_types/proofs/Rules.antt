-- What an operator took, where it gave something.
use Rattle.std.proofs.Common.{◌≡◌, ℕ, List, [], ◌∷◌, Option, Some, None, Bool, true, false, refl, sym, ap, ◌∙◌, subst}
use Rattle.std.specs.Prelude.{◌&&◌, ◌||◌, is_some, Ok, if◌then◌else◌}
use Rattle.std.specs.Option.{option_map}
use Rattle.c_syntax.specs.declared.tree.BinOp.{BinOp}
use Rattle.c_syntax.specs.declared.tree.BinOp.TheVariants as binary
use Rattle.c_types.specs.declared.fault.TypeFault.TheVariants as fault
use Rattle.c_types.specs.Types as type
use Rattle.c_types.specs.Types.{CType, Tags, is_arithmetic, is_pointer, is_function_pointer, is_void_pointer, is_object_pointer, is_unsigned, is_scalar, same_type, decayed, promoted, common_type, words_of, is_object_type}
use Rattle.c_types.specs.Constants.{Constant}
use Rattle.c_types.specs.Operands.{Other, Operand, operand, value_at, value_type, is_place, is_word_place, is_condition, can_equal, can_order, converts, is_element_pointer, when, or_else, sum_type, difference_type, number_type, binary_type, typed_or, result_converts, assign_operand, step_operand}
use Rattle.c_types.specs.Room.{is_wide_pointer}
use Rattle.c_types.proofs.TypeLemmas.{equal_types}
use Rattle.c_helpers.specs.Fewer.{sign_of}
use Rattle.c_fewer_types.proofs.Judged.{keeping_is, first_kept}
use Rattle.c_fewer_types.proofs.Calls.{object_pointer}

-- ---- tests

pub and_true : (a b : Bool) → (a && b) ≡ true → (a ≡ true) × (b ≡ true)
and_true true b e = (refl, e)
and_true false b e = absurd (cc e)

when_some : (b : Bool) (t r : CType) → when b t ≡ Some r → (b ≡ true) × (t ≡ r)
when_some true t r e = let same : t ≡ r = cc e in (refl, same)
when_some false t r e = absurd (cc e)

-- ---- what comes out

-- the type that an operator gave
pub typed_told : (at : ℕ) (c : Constant) (o : Option CType) (z : Operand) → typed_or at (option_map (λ t. operand at t Other c) o) ≡ Ok z → (o ≡ Some z.ty) × (z.sort ≡ Other)
typed_told at c None z e = absurd (cc e)
typed_told at c (Some t) z e = let same : operand at t Other c ≡ z = cc e in (ap (λ w. Some w.ty) same, ap (λ w. w.sort) (sym same))

-- ---- sums and differences

-- of a pointer to wide elements only a number is taken or added
pub record OfNumber (tags : Tags) (t u r : CType) : Type 0 where
  pub result : r ≡ t
  pub number : is_arithmetic u ≡ true
  pub pointer : is_object_pointer t ≡ true

pub wide_sum : (tags : Tags) (t u r : CType) → is_wide_pointer tags t ≡ true → sum_type tags t u ≡ Some r → OfNumber tags t u r
wide_sum tags (type.Pointer t) u r w e = go (is_object_type tags t) (is_arithmetic u) refl refl e
  where
    go : (o a : Bool) → is_object_type tags t ≡ o → is_arithmetic u ≡ a → or_else (when (o && a) (type.Pointer t)) None ≡ Some r → OfNumber tags (type.Pointer t) u r
    go true true k l e = let same : type.Pointer t ≡ r = cc e in record { result = sym same; number = l; pointer = object_pointer tags t k }
    go true false k l e = absurd (cc e)
    go false a k l e = absurd (cc e)
wide_sum tags t u r w e = absurd (cc w)

-- on either side
pub record OfNumberBefore (tags : Tags) (t u r : CType) : Type 0 where
  pub result : r ≡ u
  pub number : is_arithmetic t ≡ true
  pub pointer : is_object_pointer u ≡ true

pub wide_sum_right : (tags : Tags) (t u r : CType) → is_wide_pointer tags u ≡ true → sum_type tags t u ≡ Some r → OfNumberBefore tags t u r
wide_sum_right tags t (type.Pointer u) r w e = go (is_arithmetic t) (is_element_pointer tags t) (is_object_type tags u) refl refl e
  where
    go : (a p o : Bool) → is_arithmetic t ≡ a → is_object_type tags u ≡ o
        → or_else (when (a && false) (common_type t (type.Pointer u))) (or_else (when (p && false) t) (when (a && o) (type.Pointer u))) ≡ Some r → OfNumberBefore tags t (type.Pointer u) r
    go true true true k l e = let same : type.Pointer u ≡ r = cc e in record { result = sym same; number = k; pointer = object_pointer tags u l }
    go true false true k l e = let same : type.Pointer u ≡ r = cc e in record { result = sym same; number = k; pointer = object_pointer tags u l }
    go true true false k l e = absurd (cc e)
    go true false false k l e = absurd (cc e)
    go false true o k l e = absurd (cc e)
    go false false o k l e = absurd (cc e)
wide_sum_right tags t u r w e = absurd (cc w)

-- a difference with a wide pointer on the left: of a number, or of an equal pointer
pub record OfPointers (tags : Tags) (t u r : CType) : Type 0 where
  pub result : r ≡ type.Int
  pub left : is_object_pointer t ≡ true
  pub right : is_object_pointer u ≡ true

pub pointers_taken : (tags : Tags) (t u r : CType) → is_wide_pointer tags t ≡ true → is_pointer u ≡ true → difference_type tags t u ≡ Some r → OfPointers tags t u r
pointers_taken tags (type.Pointer t) (type.Pointer u) r w p e = go (is_object_type tags t) (same_type t u) refl refl e
  where
    go : (o s : Bool) → is_object_type tags t ≡ o → same_type t u ≡ s → or_else (when (o && false) (type.Pointer t)) (when (o && s) type.Int) ≡ Some r → OfPointers tags (type.Pointer t) (type.Pointer u) r
    go true true k l e =
        let same : type.Int ≡ r = cc e in
        let left = object_pointer tags t k in
        record { result = sym same; left = left; right = subst (λ z. is_object_pointer (type.Pointer z) ≡ true) ((equal_types t u).0 l) left }
    go true false k l e = absurd (cc e)
    go false s k l e = absurd (cc e)
pointers_taken tags (type.Pointer t) u r w p e = absurd (cc p)
pointers_taken tags t u r w p e = absurd (cc w)

pub number_taken : (tags : Tags) (t u r : CType) → is_wide_pointer tags t ≡ true → is_pointer u ≡ false → difference_type tags t u ≡ Some r → OfNumber tags t u r
number_taken tags (type.Pointer t) u r w p e = go (is_object_type tags t) (is_arithmetic u) (same_type (type.Pointer t) u) refl refl (other u p) e
  where
    other : (u : CType) → is_pointer u ≡ false → same_type (type.Pointer t) u ≡ false
    other (type.Pointer u) p = absurd (cc p)
    other u p = refl

    go : (o a s : Bool) → is_object_type tags t ≡ o → is_arithmetic u ≡ a → s ≡ false → or_else (when (o && a) (type.Pointer t)) (when (o && s) type.Int) ≡ Some r → OfNumber tags (type.Pointer t) u r
    go true true s k l m e = let same : type.Pointer t ≡ r = cc e in record { result = sym same; number = l; pointer = object_pointer tags t k }
    go true false true k l m e = absurd (cc m)
    go true false false k l m e = absurd (cc e)
    go false a s k l m e = absurd (cc e)
number_taken tags t u r w p e = absurd (cc w)

-- ---- operators for which functions stand

-- they take numbers and give one
pub record OfNumbers (t u r : CType) : Type 0 where
  pub left : is_arithmetic t ≡ true
  pub right : is_arithmetic u ≡ true
  pub result : is_arithmetic r ≡ true

common_number : (b : Bool) → is_arithmetic (if b then type.Unsigned else type.Int) ≡ true
common_number true = refl
common_number false = refl

pub promoted_number : (t : CType) → is_arithmetic (promoted t) ≡ true
promoted_number t = common_number (is_unsigned t)

numbers : (t u c r : CType) → (is_arithmetic t ≡ true → is_arithmetic c ≡ true) → number_type t u c ≡ Some r → OfNumbers t u r
numbers t u c r f e =
    let k = when_some (is_arithmetic t && is_arithmetic u) c r e in
    let l = and_true (is_arithmetic t) (is_arithmetic u) k.0 in
    record { left = l.0; right = l.1; result = subst (λ z. is_arithmetic z ≡ true) k.1 (f l.0) }

pub sign_takes : (tags : Tags) (op : BinOp) (unsigned : Bool) (sign : List ℕ) (x y : Operand) (r : CType) → sign_of op unsigned ≡ Some sign → binary_type tags op x y ≡ Some r → OfNumbers (value_type x) (value_type y) r
sign_takes tags binary.Mul unsigned sign x y r k e = numbers _ _ _ _ (λ _. common_number (is_unsigned (value_type x) || is_unsigned (value_type y))) e
sign_takes tags binary.Div unsigned sign x y r k e = numbers _ _ _ _ (λ _. common_number (is_unsigned (value_type x) || is_unsigned (value_type y))) e
sign_takes tags binary.Mod unsigned sign x y r k e = numbers _ _ _ _ (λ _. common_number (is_unsigned (value_type x) || is_unsigned (value_type y))) e
sign_takes tags binary.BitAnd unsigned sign x y r k e = numbers _ _ _ _ (λ _. common_number (is_unsigned (value_type x) || is_unsigned (value_type y))) e
sign_takes tags binary.BitOr unsigned sign x y r k e = numbers _ _ _ _ (λ _. common_number (is_unsigned (value_type x) || is_unsigned (value_type y))) e
sign_takes tags binary.BitXor unsigned sign x y r k e = numbers _ _ _ _ (λ _. common_number (is_unsigned (value_type x) || is_unsigned (value_type y))) e
sign_takes tags binary.Shl unsigned sign x y r k e = numbers _ _ _ _ (λ f. f) e
sign_takes tags binary.Shr unsigned sign x y r k e = numbers _ _ _ _ (λ f. f) e
sign_takes tags op unsigned sign x y r k e = absurd (cc k)

-- ---- assignments

pub record Assigned (tags : Tags) (at : ℕ) (op : BinOp) (x y z : Operand) : Type 0 where
  pub is : z ≡ value_at at x.ty
  pub place : is_place x.sort ≡ true
  pub scalar : is_scalar x.ty ≡ true
  pub result : CType
  pub gives : binary_type tags op x y ≡ Some result
  pub converts : converts (value_at at result) x.ty ≡ true

converted : (at : ℕ) (o : Option CType) (t : CType) → result_converts at o t ≡ true → (r : CType) × (o ≡ Some r) × (converts (value_at at r) t ≡ true)
converted at None t e = absurd (cc e)
converted at (Some r) t e = (r, refl, e)

pub assigned : (tags : Tags) (at : ℕ) (op : BinOp) (x y z : Operand) → assign_operand tags at (Some op) x y ≡ Ok z → Assigned tags at op x y z
assigned tags at op x y z e =
    let k = keeping_is ((is_word_place x, fault.NotLvalue x.pos) ∷ (result_converts at (binary_type tags op x y) x.ty, fault.Mismatch at) ∷ []) (value_at at x.ty) z e in
    let l = first_kept (is_word_place x) (fault.NotLvalue x.pos) ((result_converts at (binary_type tags op x y) x.ty, fault.Mismatch at) ∷ []) k.0 in
    let m = first_kept (result_converts at (binary_type tags op x y) x.ty) (fault.Mismatch at) [] l.1 in
    let p = and_true (is_place x.sort) (is_scalar x.ty) l.0 in
    let c = converted at (binary_type tags op x y) x.ty m.0 in
    record { is = sym k.1; place = p.0; scalar = p.1; result = c.0; gives = c.1; converts = c.2 }

-- a scalar isn't an array
pub scalar_same : (t : CType) → is_scalar t ≡ true → decayed t ≡ t
scalar_same (type.Array t n) e = absurd (cc e)
scalar_same type.Void e = refl
scalar_same type.Int e = refl
scalar_same type.Unsigned e = refl
scalar_same type.Char e = refl
scalar_same type.UChar e = refl
scalar_same type.Null e = refl
scalar_same (type.Struct tag) e = refl
scalar_same (type.Pointer t) e = refl
scalar_same (type.Function t ts) e = refl

-- an int converts to no pointer
no_int : (at : ℕ) (t : CType) → converts (value_at at type.Int) (type.Pointer t) ≡ false
no_int at (type.Function t ts) = refl
no_int at type.Void = refl
no_int at type.Int = refl
no_int at type.Unsigned = refl
no_int at type.Char = refl
no_int at type.UChar = refl
no_int at type.Null = refl
no_int at (type.Struct tag) = refl
no_int at (type.Pointer t) = refl
no_int at (type.Array t n) = refl

-- what is assigned to a pointer to wide elements with an operator is the sum or difference with a number
module _ (tags : Tags) (at : ℕ) (x y : Operand) (t : CType) (is : value_type x ≡ type.Pointer t) where
  abbrev Number : CType → Type 0
  Number u = (is_arithmetic u ≡ true) × (is_object_pointer (type.Pointer t) ≡ true)

  of_int : (b : Bool) (r : CType) → when b type.Int ≡ Some r → converts (value_at at r) (type.Pointer t) ≡ true → Number (value_type y)
  of_int b r e c =
      let k = when_some b type.Int r e in
      absurd (cc (sym (no_int at t) ∙ subst (λ z. converts (value_at at z) (type.Pointer t) ≡ true) (sym k.1) c))

  of_numbers : (c r : CType) → number_type (value_type x) (value_type y) c ≡ Some r → Number (value_type y)
  of_numbers c r e =
      let k = when_some (is_arithmetic (value_type x) && is_arithmetic (value_type y)) c r e in
      let l = and_true (is_arithmetic (value_type x)) (is_arithmetic (value_type y)) k.0 in
      absurd (cc (sym (ap is_arithmetic is) ∙ l.0))

  of_sum : (u r : CType) → sum_type tags (type.Pointer t) u ≡ Some r → Number u
  of_sum u r e = go (is_object_type tags t) (is_arithmetic u) refl refl e
    where
      go : (o a : Bool) → is_object_type tags t ≡ o → is_arithmetic u ≡ a → or_else (when (o && a) (type.Pointer t)) None ≡ Some r → Number u
      go true true k l e = (l, object_pointer tags t k)
      go true false k l e = absurd (cc e)
      go false a k l e = absurd (cc e)

  of_difference : (u r : CType) → difference_type tags (type.Pointer t) u ≡ Some r → converts (value_at at r) (type.Pointer t) ≡ true → Number u
  of_difference u r e c = go (is_object_type tags t) (is_arithmetic u) (same_type (type.Pointer t) u) refl refl e
    where
      go : (o a s : Bool) → is_object_type tags t ≡ o → is_arithmetic u ≡ a → or_else (when (o && a) (type.Pointer t)) (when (o && s) type.Int) ≡ Some r → Number u
      go true true s k l e = (l, object_pointer tags t k)
      go true false s k l e =
          let m = when_some s type.Int r e in
          absurd (cc (sym (no_int at t) ∙ subst (λ z. converts (value_at at z) (type.Pointer t) ≡ true) (sym m.1) c))
      go false a s k l e = absurd (cc e)

  pub pointer_assigned : (op : BinOp) (r : CType) → binary_type tags op x y ≡ Some r → converts (value_at at r) (type.Pointer t) ≡ true → Number (value_type y)
  pointer_assigned binary.Or r e c = of_int (is_condition x && is_condition y) r e c
  pointer_assigned binary.And r e c = of_int (is_condition x && is_condition y) r e c
  pointer_assigned binary.Eq r e c = of_int (can_equal x y) r e c
  pointer_assigned binary.Ne r e c = of_int (can_equal x y) r e c
  pointer_assigned binary.Lt r e c = of_int (can_order (value_type x) (value_type y)) r e c
  pointer_assigned binary.Gt r e c = of_int (can_order (value_type x) (value_type y)) r e c
  pointer_assigned binary.Le r e c = of_int (can_order (value_type x) (value_type y)) r e c
  pointer_assigned binary.Ge r e c = of_int (can_order (value_type x) (value_type y)) r e c
  pointer_assigned binary.Add r e c = of_sum (value_type y) r (subst (λ z. sum_type tags z (value_type y) ≡ Some r) is e)
  pointer_assigned binary.Sub r e c = of_difference (value_type y) r (subst (λ z. difference_type tags z (value_type y) ≡ Some r) is e) c
  pointer_assigned binary.Shl r e c = of_numbers (value_type x) r e
  pointer_assigned binary.Shr r e c = of_numbers (value_type x) r e
  pointer_assigned op r e c = of_numbers (common_type (value_type x) (value_type y)) r e

-- ---- steps

pub record Stepped (tags : Tags) (at : ℕ) (x z : Operand) : Type 0 where
  pub is : z ≡ value_at at (value_type x)
  pub place : is_place x.sort ≡ true
  pub scalar : is_scalar x.ty ≡ true
  pub sum : is_some (sum_type tags (value_type x) type.Int) ≡ true

pub stepped : (tags : Tags) (at : ℕ) (x z : Operand) → step_operand tags at x ≡ Ok z → Stepped tags at x z
stepped tags at x z e =
    let rest = (is_some (sum_type tags (value_type x) type.Int), fault.Mismatch at) ∷ [] in
    let k = keeping_is ((is_word_place x, fault.NotLvalue x.pos) ∷ rest) (value_at at (value_type x)) z e in
    let l = first_kept (is_word_place x) (fault.NotLvalue x.pos) rest k.0 in
    let m = first_kept (is_some (sum_type tags (value_type x) type.Int)) (fault.Mismatch at) [] l.1 in
    let p = and_true (is_place x.sort) (is_scalar x.ty) l.0 in
    record { is = sym k.1; place = p.0; scalar = p.1; sum = m.0 }

-- what has some has one
pub some_of : (o : Option CType) → is_some o ≡ true → (r : CType) × (o ≡ Some r)
some_of None e = absurd (cc e)
some_of (Some r) e = (r, refl)

-- a wide pointer is one
pub wide_is : (tags : Tags) (t : CType) → is_wide_pointer tags t ≡ true → (u : CType) × (t ≡ type.Pointer u)
wide_is tags (type.Pointer u) w = (u, refl)
wide_is tags t w = absurd (cc w)
