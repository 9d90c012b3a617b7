-- What typed operators tell of types.
use Rattle.std.proofs.Common.{◌≡◌, ℕ, List, [], ◌∷◌, Option, Some, None, Bool, true, false, refl, sym, ap, ◌∙◌, subst}
use Rattle.std.specs.Prelude.{◌||◌, ◌&&◌, Ok, Err, if◌then◌else◌}
use Rattle.std.specs.Option.{option_map_or}
use Rattle.c_syntax.specs.Plain as plain
use Rattle.c_syntax.specs.Plain.{CExpr}
use Rattle.c_syntax.specs.declared.tree.BinOp.{BinOp}
use Rattle.c_syntax.specs.declared.tree.BinOp.TheVariants as binary
use Rattle.c_types.specs.declared.fault.TypeFault.TheVariants as fault
use Rattle.c_types.specs.Types as type
use Rattle.c_types.specs.Types.{CType, Tags, is_arithmetic, is_pointer, is_object_pointer, is_scalar, is_unsigned, is_void, same_type, common_type, decayed, is_object_type}
use Rattle.c_types.specs.Refusals.{keeping}
use Rattle.c_types.specs.Scope as entity
use Rattle.c_types.specs.Scope.{Scope, Entity, entity_of, is_function, contains}
use Rattle.c_types.specs.Constants.{NotConstant}
use Rattle.c_types.specs.Operands.{Operand, Designator, operand, value_at, place_at, value_type, is_place, is_element_pointer, when, or_else, sum_type, difference_type, binary_type, converts, is_condition, can_equal, can_order, pointed_operand, index_operand}
use Rattle.c_types.specs.Expressions.{named, names_function, judged}
use Rattle.c_helpers.specs.Fewer.{sign_of}
use Rattle.c_fewer_values.specs.Laws.{IsSum}
use Rattle.c_fewer_types.proofs.Judged.{keeping_is}
use Rattle.c_fewer_types.proofs.Calls.{object_pointer}

-- ---- no operator gives void

when_void : (b : Bool) (t r : CType) → (b ≡ true → is_void t ≡ false) → when b t ≡ Some r → is_void r ≡ false
when_void true t r f e = let same : t ≡ r = cc e in subst (λ z. is_void z ≡ false) same (f refl)
when_void false t r f e = absurd (cc e)

or_void : (o p : Option CType) (r : CType) → ((r : CType) → o ≡ Some r → is_void r ≡ false) → ((r : CType) → p ≡ Some r → is_void r ≡ false) → or_else o p ≡ Some r → is_void r ≡ false
or_void None p r f g e = g r e
or_void (Some t) p r f g e = f r e

number_void : (t : CType) → is_arithmetic t ≡ true → is_void t ≡ false
number_void type.Int e = refl
number_void type.Unsigned e = refl
number_void type.Char e = refl
number_void type.UChar e = refl
number_void t e = absurd (cc e)

common_void : (b : Bool) → is_void (if b then type.Unsigned else type.Int) ≡ false
common_void true = refl
common_void false = refl

element_void : (tags : Tags) (t : CType) → is_element_pointer tags t ≡ true → is_void t ≡ false
element_void tags (type.Pointer t) e = refl
element_void tags t e = absurd (cc e)

first_of : (a b : Bool) → (a && b) ≡ true → a ≡ true
first_of true b e = refl
first_of false b e = absurd (cc e)

second_of : (a b : Bool) → (a && b) ≡ true → b ≡ true
second_of true b e = e
second_of false b e = absurd (cc e)

sum_void : (tags : Tags) (t u r : CType) → sum_type tags t u ≡ Some r → is_void r ≡ false
sum_void tags t u r e =
    or_void (when (is_arithmetic t && is_arithmetic u) (common_type t u)) (or_else (when (is_element_pointer tags t && is_arithmetic u) t) (when (is_arithmetic t && is_element_pointer tags u) u)) r
    (λ r k. when_void (is_arithmetic t && is_arithmetic u) (common_type t u) r (λ b. common_void (is_unsigned t || is_unsigned u)) k)
    (λ r k. or_void (when (is_element_pointer tags t && is_arithmetic u) t) (when (is_arithmetic t && is_element_pointer tags u) u) r
    (λ r k. when_void (is_element_pointer tags t && is_arithmetic u) t r (λ b. element_void tags t (first_of _ _ b)) k)
    (λ r k. when_void (is_arithmetic t && is_element_pointer tags u) u r (λ b. element_void tags u (second_of _ _ b)) k) k) e

difference_void : (tags : Tags) (t u r : CType) → difference_type tags t u ≡ Some r → is_void r ≡ false
difference_void tags t u r e =
    or_void (when (is_arithmetic t && is_arithmetic u) (common_type t u)) (or_else (when (is_element_pointer tags t && is_arithmetic u) t) (when (is_element_pointer tags t && same_type t u) type.Int)) r
    (λ r k. when_void (is_arithmetic t && is_arithmetic u) (common_type t u) r (λ b. common_void (is_unsigned t || is_unsigned u)) k)
    (λ r k. or_void (when (is_element_pointer tags t && is_arithmetic u) t) (when (is_element_pointer tags t && same_type t u) type.Int) r
    (λ r k. when_void (is_element_pointer tags t && is_arithmetic u) t r (λ b. element_void tags t (first_of _ _ b)) k)
    (λ r k. when_void (is_element_pointer tags t && same_type t u) type.Int r (λ b. refl) k) k) e

pub binary_void : (tags : Tags) (op : BinOp) (a b : Operand) (r : CType) → binary_type tags op a b ≡ Some r → is_void r ≡ false
binary_void tags binary.Or a b r e = when_void (is_condition a && is_condition b) type.Int r (λ k. refl) e
binary_void tags binary.And a b r e = when_void (is_condition a && is_condition b) type.Int r (λ k. refl) e
binary_void tags binary.Eq a b r e = when_void (can_equal a b) type.Int r (λ k. refl) e
binary_void tags binary.Ne a b r e = when_void (can_equal a b) type.Int r (λ k. refl) e
binary_void tags binary.Lt a b r e = when_void (can_order (value_type a) (value_type b)) type.Int r (λ k. refl) e
binary_void tags binary.Gt a b r e = when_void (can_order (value_type a) (value_type b)) type.Int r (λ k. refl) e
binary_void tags binary.Le a b r e = when_void (can_order (value_type a) (value_type b)) type.Int r (λ k. refl) e
binary_void tags binary.Ge a b r e = when_void (can_order (value_type a) (value_type b)) type.Int r (λ k. refl) e
binary_void tags binary.Shl a b r e = when_void (is_arithmetic (value_type a) && is_arithmetic (value_type b)) (value_type a) r (λ k. number_void (value_type a) (first_of _ _ k)) e
binary_void tags binary.Shr a b r e = when_void (is_arithmetic (value_type a) && is_arithmetic (value_type b)) (value_type a) r (λ k. number_void (value_type a) (first_of _ _ k)) e
binary_void tags binary.Add a b r e = sum_void tags (value_type a) (value_type b) r e
binary_void tags binary.Sub a b r e = difference_void tags (value_type a) (value_type b) r e
binary_void tags op a b r e = when_void (is_arithmetic (value_type a) && is_arithmetic (value_type b)) (common_type (value_type a) (value_type b)) r (λ k. common_void (is_unsigned (value_type a) || is_unsigned (value_type b))) e

pub scalar_void : (t : CType) → is_scalar t ≡ true → is_void t ≡ false
scalar_void type.Void e = absurd (cc e)
scalar_void t e = refl

-- two pointers have no sum
pub one_pointer : (tags : Tags) (t u r : CType) → sum_type tags t u ≡ Some r → (is_pointer t && is_pointer u) ≡ false
one_pointer tags (type.Pointer t) (type.Pointer u) r e = go (is_object_type tags t) e
  where
    go : (o : Bool) → or_else (when (o && false) (type.Pointer t)) None ≡ Some r → true ≡ false
    go true e = absurd (cc e)
    go false e = absurd (cc e)
one_pointer tags (type.Pointer t) u r e = refl
one_pointer tags t u r e = refl

-- ---- a place isn't the name of a function

named_object : (s : Scope) (at : ℕ) (name : List ℕ) (o : Option Entity) (x : Operand) → named s at name o ≡ Ok x → is_place x.sort ≡ true → is_function o ≡ false
named_object s at name (Some (entity.Object t)) x e p = refl
named_object s at name (Some (entity.Routine t begun)) x e p =
    let k = keeping_is {A = Operand} ((contains s.defined name, fault.BadCall at) ∷ []) (operand at (type.Pointer t) Designator NotConstant) x e in
    absurd (cc (ap (λ z. is_place z.sort) k.1 ∙ p))
named_object s at name (Some (entity.BuiltIn t)) x e p = absurd (cc e)
named_object s at name (Some entity.Printf) x e p = absurd (cc e)
named_object s at name None x e p = absurd (cc e)

pub place_names : (s : Scope) (a : CExpr) (x : Operand) → judged s a ≡ Ok x → is_place x.sort ≡ true → names_function s a ≡ false
place_names s (plain.Var at name) x e p = named_object s at name (entity_of s name) x e p
place_names s a x e p = refl

-- ---- elements

-- what an element is, by what the sum points to
pub record Pointed (tags : Tags) (t u : CType) (x : Operand) : Type 0 where
  pub to : CType
  pub sum : sum_type tags t u ≡ Some (type.Pointer to)
  pub ty : x.ty ≡ to
  pub object : is_object_pointer (type.Pointer to) ≡ true

-- a sum that is a pointer points to an object
sum_object : (tags : Tags) (t u to : CType) → sum_type tags t u ≡ Some (type.Pointer to) → is_object_type tags to ≡ true
sum_object tags t u to e = first (is_arithmetic t && is_arithmetic u) e
  where
    no_common : (b : Bool) → Some (if b then type.Unsigned else type.Int) ≡ Some (type.Pointer to) → is_object_type tags to ≡ true
    no_common true e = absurd (cc e)
    no_common false e = absurd (cc e)

    element : (t : CType) → is_element_pointer tags t ≡ true → t ≡ type.Pointer to → is_object_type tags to ≡ true
    element t k same = subst (λ z. is_element_pointer tags z ≡ true) same k

    third : (b : Bool) → (b ≡ true → is_element_pointer tags u ≡ true) → when b u ≡ Some (type.Pointer to) → is_object_type tags to ≡ true
    third true f e = let same : u ≡ type.Pointer to = cc e in element u (f refl) same
    third false f e = absurd (cc e)

    second : (b : Bool) → (b ≡ true → is_element_pointer tags t ≡ true) → or_else (when b t) (when (is_arithmetic t && is_element_pointer tags u) u) ≡ Some (type.Pointer to) → is_object_type tags to ≡ true
    second true f e = let same : t ≡ type.Pointer to = cc e in element t (f refl) same
    second false f e = third (is_arithmetic t && is_element_pointer tags u) (λ k. second_of (is_arithmetic t) (is_element_pointer tags u) k) e

    first : (b : Bool) → or_else (when b (common_type t u)) (or_else (when (is_element_pointer tags t && is_arithmetic u) t) (when (is_arithmetic t && is_element_pointer tags u) u)) ≡ Some (type.Pointer to) → is_object_type tags to ≡ true
    first true e = no_common (is_unsigned t || is_unsigned u) e
    first false e = second (is_element_pointer tags t && is_arithmetic u) (λ k. first_of (is_element_pointer tags t) (is_arithmetic u) k) e

pub index_pointed : (tags : Tags) (at : ℕ) (a b x : Operand) → index_operand tags at a b ≡ Ok x → Pointed tags (value_type a) (value_type b) x
index_pointed tags at a b x e = of_sum (sum_type tags (value_type a) (value_type b)) refl e
  where
    of_place : (to : CType) → sum_type tags (value_type a) (value_type b) ≡ Some (type.Pointer to) → is_object_type tags to ≡ true → keeping ((is_object_type tags to, fault.Mismatch at) ∷ []) (place_at at to) ≡ Ok x → Pointed tags (value_type a) (value_type b) x
    of_place to k o e =
        let l = keeping_is {A = Operand} ((is_object_type tags to, fault.Mismatch at) ∷ []) (place_at at to) x e in
        record { to = to; sum = k; ty = sym (ap (λ z. z.ty) l.1); object = object_pointer tags to o }

    of_pointer : (to : CType) → sum_type tags (value_type a) (value_type b) ≡ Some (type.Pointer to) → is_object_type tags to ≡ true → pointed_operand tags at (type.Pointer to) ≡ Ok x → Pointed tags (value_type a) (value_type b) x
    of_pointer (type.Function t ts) k o e = absurd (cc o)
    of_pointer type.Void k o e = of_place type.Void k o e
    of_pointer type.Int k o e = of_place type.Int k o e
    of_pointer type.Unsigned k o e = of_place type.Unsigned k o e
    of_pointer type.Char k o e = of_place type.Char k o e
    of_pointer type.UChar k o e = of_place type.UChar k o e
    of_pointer type.Null k o e = of_place type.Null k o e
    of_pointer (type.Struct tag) k o e = of_place (type.Struct tag) k o e
    of_pointer (type.Pointer t) k o e = of_place (type.Pointer t) k o e
    of_pointer (type.Array t n) k o e = of_place (type.Array t n) k o e

    of_type : (r : CType) → sum_type tags (value_type a) (value_type b) ≡ Some r → pointed_operand tags at r ≡ Ok x → Pointed tags (value_type a) (value_type b) x
    of_type (type.Pointer to) k e = of_pointer to k (sum_object tags (value_type a) (value_type b) to k) e
    of_type r k e = absurd (cc e)

    of_sum : (o : Option CType) → sum_type tags (value_type a) (value_type b) ≡ o → option_map_or (λ t. pointed_operand tags at t) o (Err (fault.Mismatch at)) ≡ Ok x → Pointed tags (value_type a) (value_type b) x
    of_sum None k e = absurd (cc e)
    of_sum (Some r) k e = of_type r k e

-- ---- assignments to pointers

-- a number is no pointer
pub no_pointer : (t : CType) → is_arithmetic t ≡ true → is_pointer t ≡ false
no_pointer type.Int e = refl
no_pointer type.Unsigned e = refl
no_pointer type.Char e = refl
no_pointer type.UChar e = refl
no_pointer t e = absurd (cc e)

int_converts : (at : ℕ) (t : CType) → converts (value_at at type.Int) (type.Pointer t) ≡ false
int_converts at (type.Function t ts) = refl
int_converts at type.Void = refl
int_converts at type.Int = refl
int_converts at type.Unsigned = refl
int_converts at type.Char = refl
int_converts at type.UChar = refl
int_converts at type.Null = refl
int_converts at (type.Struct tag) = refl
int_converts at (type.Pointer t) = refl
int_converts at (type.Array t n) = refl

no_truth : (at : ℕ) (b : Bool) (r t : CType) → when b type.Int ≡ Some r → converts (value_at at r) (type.Pointer t) ≡ true → ⊥
no_truth at true r t e k = let same : type.Int ≡ r = cc e in absurd (cc (sym (int_converts at t) ∙ subst (λ z. converts (value_at at z) (type.Pointer t) ≡ true) (sym same) k))
no_truth at false r t e k = absurd (cc e)

-- what an operator without a function assigns to a pointer is a sum or a difference
pub sum_op : (tags : Tags) (at : ℕ) (x y : Operand) (t : CType) (op : BinOp) (r : CType) (c : Bool) → sign_of op c ≡ None → binary_type tags op x y ≡ Some r → converts (value_at at r) (type.Pointer t) ≡ true → IsSum op
sum_op tags at x y t binary.Add r c k e m = tt
sum_op tags at x y t binary.Sub r c k e m = tt
sum_op tags at x y t binary.Or r c k e m = no_truth at (is_condition x && is_condition y) r t e m
sum_op tags at x y t binary.And r c k e m = no_truth at (is_condition x && is_condition y) r t e m
sum_op tags at x y t binary.Eq r c k e m = no_truth at (can_equal x y) r t e m
sum_op tags at x y t binary.Ne r c k e m = no_truth at (can_equal x y) r t e m
sum_op tags at x y t binary.Lt r c k e m = no_truth at (can_order (value_type x) (value_type y)) r t e m
sum_op tags at x y t binary.Gt r c k e m = no_truth at (can_order (value_type x) (value_type y)) r t e m
sum_op tags at x y t binary.Le r c k e m = no_truth at (can_order (value_type x) (value_type y)) r t e m
sum_op tags at x y t binary.Ge r c k e m = no_truth at (can_order (value_type x) (value_type y)) r t e m
sum_op tags at x y t op r c k e m = absurd (cc k)
