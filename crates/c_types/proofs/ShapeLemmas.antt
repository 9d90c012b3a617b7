-- One thing has one shape.
use Rattle.std.proofs.Common.{◌≡◌, ℕ, ◌+◌, Bool, true, false, List, [], ◌∷◌, ◌++◌, Option, Some, None, refl, sym, ap, ◌∙◌, subst}
use Rattle.std.specs.Prelude.{slice_get}
use Rattle.c_types.specs.Types as types
use Rattle.c_types.specs.Types.{CType, CTypes}
use Rattle.c_types.specs.declared.shape.Shape.{Shape}
use Rattle.c_types.specs.declared.shape.Shape.TheVariants.{Void, Int, Unsigned, Char, UChar, Null, Struct, Pointer, Array, Function, NoType, MoreType}
use Rattle.c_types.specs.Known.{Known, OneType, TypeList, of_tag, of_type, with_list, of_both, says}

-- which of the shapes, and the two numbers in it
data Former : Type 0 where
  IsVoid IsInt IsUnsigned IsChar IsUChar IsNull IsStruct IsPointer IsArray IsFunction IsNoType IsMoreType : Former

abbrev former : Shape → Former
former Void = IsVoid
former Int = IsInt
former Unsigned = IsUnsigned
former Char = IsChar
former UChar = IsUChar
former Null = IsNull
former (Struct n) = IsStruct
former (Pointer t) = IsPointer
former (Array t n) = IsArray
former (Function t ts) = IsFunction
former NoType = IsNoType
former (MoreType t ts) = IsMoreType

abbrev first : Shape → ℕ
first (Struct n) = n
first (Pointer t) = t
first (Array t n) = t
first (Function t ts) = t
first (MoreType t ts) = t
first _ = 0

abbrev second : Shape → ℕ
second (Array t n) = n
second (Function t ts) = ts
second (MoreType t ts) = ts
second _ = 0

abbrev rebuilt : Former → ℕ → ℕ → Shape
rebuilt IsVoid m n = Void
rebuilt IsInt m n = Int
rebuilt IsUnsigned m n = Unsigned
rebuilt IsChar m n = Char
rebuilt IsUChar m n = UChar
rebuilt IsNull m n = Null
rebuilt IsStruct m n = Struct m
rebuilt IsPointer m n = Pointer m
rebuilt IsArray m n = Array m n
rebuilt IsFunction m n = Function m n
rebuilt IsNoType m n = NoType
rebuilt IsMoreType m n = MoreType m n

rebuilt_self : (s : Shape) → rebuilt (former s) (first s) (second s) ≡ s
rebuilt_self Void = refl
rebuilt_self Int = refl
rebuilt_self Unsigned = refl
rebuilt_self Char = refl
rebuilt_self UChar = refl
rebuilt_self Null = refl
rebuilt_self (Struct n) = refl
rebuilt_self (Pointer t) = refl
rebuilt_self (Array t n) = refl
rebuilt_self (Function t ts) = refl
rebuilt_self NoType = refl
rebuilt_self (MoreType t ts) = refl

abbrev known_former : Known → Former
known_former (OneType types.Void) = IsVoid
known_former (OneType types.Int) = IsInt
known_former (OneType types.Unsigned) = IsUnsigned
known_former (OneType types.Char) = IsChar
known_former (OneType types.UChar) = IsUChar
known_former (OneType types.Null) = IsNull
known_former (OneType (types.Struct tag)) = IsStruct
known_former (OneType (types.Pointer u)) = IsPointer
known_former (OneType (types.Array u n)) = IsArray
known_former (OneType (types.Function u us)) = IsFunction
known_former (TypeList types.NoType) = IsNoType
known_former (TypeList (types.MoreType u us)) = IsMoreType

-- the first number of the shape of what is known
abbrev IsFirst : List (List ℕ) → List Known → Known → ℕ → Type 0
IsFirst tags known (OneType (types.Struct tag)) m = slice_get tags m ≡ Some tag
IsFirst tags known (OneType (types.Pointer u)) m = slice_get known m ≡ Some (OneType u)
IsFirst tags known (OneType (types.Array u n)) m = slice_get known m ≡ Some (OneType u)
IsFirst tags known (OneType (types.Function u us)) m = slice_get known m ≡ Some (OneType u)
IsFirst tags known (TypeList (types.MoreType u us)) m = slice_get known m ≡ Some (OneType u)
IsFirst tags known _ m = m ≡ 0

abbrev IsSecond : List Known → Known → ℕ → Type 0
IsSecond known (OneType (types.Array u n)) m = m ≡ n
IsSecond known (OneType (types.Function u us)) m = slice_get known m ≡ Some (TypeList us)
IsSecond known (TypeList (types.MoreType u us)) m = slice_get known m ≡ Some (TypeList us)
IsSecond known _ m = m ≡ 0

record IsShapeOf (tags : List (List ℕ)) (known : List Known) (s : Shape) (k : Known) : Type 0 where
  as_former : former s ≡ known_former k
  as_first : IsFirst tags known k (first s)
  as_second : IsSecond known k (second s)

struct_shape : (tags : List (List ℕ)) (known : List Known) (n : ℕ) (k : Known) (o : Option (List ℕ)) → slice_get tags n ≡ o → of_tag o ≡ Some k → IsShapeOf tags known (Struct n) k
struct_shape tags known n k None e h = cc
struct_shape tags known n k (Some tag) e h =
    let made : OneType (types.Struct tag) ≡ k = cc in
    subst (IsShapeOf tags known (Struct n)) made (record { as_former = refl; as_first = e; as_second = refl })

pointer_shape : (tags : List (List ℕ)) (known : List Known) (t : ℕ) (k : Known) (o : Option Known) → slice_get known t ≡ o → of_type o (λ u. types.Pointer u) ≡ Some k → IsShapeOf tags known (Pointer t) k
pointer_shape tags known t k (Some (OneType u)) e h =
    let made : OneType (types.Pointer u) ≡ k = cc in
    subst (IsShapeOf tags known (Pointer t)) made (record { as_former = refl; as_first = e; as_second = refl })
pointer_shape tags known t k (Some (TypeList us)) e h = cc
pointer_shape tags known t k None e h = cc

array_shape : (tags : List (List ℕ)) (known : List Known) (t n : ℕ) (k : Known) (o : Option Known) → slice_get known t ≡ o → of_type o (λ u. types.Array u n) ≡ Some k → IsShapeOf tags known (Array t n) k
array_shape tags known t n k (Some (OneType u)) e h =
    let made : OneType (types.Array u n) ≡ k = cc in
    subst (IsShapeOf tags known (Array t n)) made (record { as_former = refl; as_first = e; as_second = refl })
array_shape tags known t n k (Some (TypeList us)) e h = cc
array_shape tags known t n k None e h = cc

function_shape : (tags : List (List ℕ)) (known : List Known) (t ts : ℕ) (k : Known) (o p : Option Known) → slice_get known t ≡ o → slice_get known ts ≡ p → of_both o p (λ u us. OneType (types.Function u us)) ≡ Some k → IsShapeOf tags known (Function t ts) k
function_shape tags known t ts k (Some (OneType u)) (Some (TypeList us)) e f h =
    let made : OneType (types.Function u us) ≡ k = cc in
    subst (IsShapeOf tags known (Function t ts)) made (record { as_former = refl; as_first = e; as_second = f })
function_shape tags known t ts k (Some (OneType u)) (Some (OneType v)) e f h = cc
function_shape tags known t ts k (Some (OneType u)) None e f h = cc
function_shape tags known t ts k (Some (TypeList us)) p e f h = cc
function_shape tags known t ts k None p e f h = cc

list_shape : (tags : List (List ℕ)) (known : List Known) (t ts : ℕ) (k : Known) (o p : Option Known) → slice_get known t ≡ o → slice_get known ts ≡ p → of_both o p (λ u us. TypeList (types.MoreType u us)) ≡ Some k → IsShapeOf tags known (MoreType t ts) k
list_shape tags known t ts k (Some (OneType u)) (Some (TypeList us)) e f h =
    let made : TypeList (types.MoreType u us) ≡ k = cc in
    subst (IsShapeOf tags known (MoreType t ts)) made (record { as_former = refl; as_first = e; as_second = f })
list_shape tags known t ts k (Some (OneType u)) (Some (OneType v)) e f h = cc
list_shape tags known t ts k (Some (OneType u)) None e f h = cc
list_shape tags known t ts k (Some (TypeList us)) p e f h = cc
list_shape tags known t ts k None p e f h = cc

plain_shape : (tags : List (List ℕ)) (known : List Known) (s : Shape) (k l : Known) → former s ≡ known_former l → IsFirst tags known l (first s) → IsSecond known l (second s) → l ≡ k → IsShapeOf tags known s k
plain_shape tags known s k l a b c e = subst (IsShapeOf tags known s) e (record { as_former = a; as_first = b; as_second = c })

some : {A : Type 0} (x y : A) → Some x ≡ Some y → x ≡ y
some x y e = cc

shape_of : (tags : List (List ℕ)) (known : List Known) (s : Shape) (k : Known) → says tags known s ≡ Some k → IsShapeOf tags known s k
shape_of tags known Void k h = plain_shape tags known Void k (OneType types.Void) refl refl refl (some (OneType types.Void) k h)
shape_of tags known Int k h = plain_shape tags known Int k (OneType types.Int) refl refl refl (some (OneType types.Int) k h)
shape_of tags known Unsigned k h = plain_shape tags known Unsigned k (OneType types.Unsigned) refl refl refl (some (OneType types.Unsigned) k h)
shape_of tags known Char k h = plain_shape tags known Char k (OneType types.Char) refl refl refl (some (OneType types.Char) k h)
shape_of tags known UChar k h = plain_shape tags known UChar k (OneType types.UChar) refl refl refl (some (OneType types.UChar) k h)
shape_of tags known Null k h = plain_shape tags known Null k (OneType types.Null) refl refl refl (some (OneType types.Null) k h)
shape_of tags known (Struct n) k h = struct_shape tags known n k (slice_get tags n) refl h
shape_of tags known (Pointer t) k h = pointer_shape tags known t k (slice_get known t) refl h
shape_of tags known (Array t n) k h = array_shape tags known t n k (slice_get known t) refl h
shape_of tags known (Function t ts) k h = function_shape tags known t ts k (slice_get known t) (slice_get known ts) refl refl h
shape_of tags known NoType k h = plain_shape tags known NoType k (TypeList types.NoType) refl refl refl (some (TypeList types.NoType) k h)
shape_of tags known (MoreType t ts) k h = list_shape tags known t ts k (slice_get known t) (slice_get known ts) refl refl h

-- a number stands for one thing, and a thing has one number
pub record AreApart (tags : List (List ℕ)) (known : List Known) : Type 0 where
  pub one : (m n : ℕ) (k : Known) → slice_get known m ≡ Some k → slice_get known n ≡ Some k → m ≡ n
  pub tag : (m n : ℕ) (name : List ℕ) → slice_get tags m ≡ Some name → slice_get tags n ≡ Some name → m ≡ n

zeros : (m n : ℕ) → m ≡ 0 → n ≡ 0 → m ≡ n
zeros m n e f = e ∙ sym f

first_one : (tags : List (List ℕ)) (known : List Known) → AreApart tags known → (k : Known) (m n : ℕ) → IsFirst tags known k m → IsFirst tags known k n → m ≡ n
first_one tags known a (OneType types.Void) m n g h = zeros m n g h
first_one tags known a (OneType types.Int) m n g h = zeros m n g h
first_one tags known a (OneType types.Unsigned) m n g h = zeros m n g h
first_one tags known a (OneType types.Char) m n g h = zeros m n g h
first_one tags known a (OneType types.UChar) m n g h = zeros m n g h
first_one tags known a (OneType types.Null) m n g h = zeros m n g h
first_one tags known a (OneType (types.Struct tag)) m n g h = a.tag m n tag g h
first_one tags known a (OneType (types.Pointer u)) m n g h = a.one m n (OneType u) g h
first_one tags known a (OneType (types.Array u j)) m n g h = a.one m n (OneType u) g h
first_one tags known a (OneType (types.Function u us)) m n g h = a.one m n (OneType u) g h
first_one tags known a (TypeList types.NoType) m n g h = zeros m n g h
first_one tags known a (TypeList (types.MoreType u us)) m n g h = a.one m n (OneType u) g h

second_one : (tags : List (List ℕ)) (known : List Known) → AreApart tags known → (k : Known) (m n : ℕ) → IsSecond known k m → IsSecond known k n → m ≡ n
second_one tags known a (OneType types.Void) m n g h = zeros m n g h
second_one tags known a (OneType types.Int) m n g h = zeros m n g h
second_one tags known a (OneType types.Unsigned) m n g h = zeros m n g h
second_one tags known a (OneType types.Char) m n g h = zeros m n g h
second_one tags known a (OneType types.UChar) m n g h = zeros m n g h
second_one tags known a (OneType types.Null) m n g h = zeros m n g h
second_one tags known a (OneType (types.Struct tag)) m n g h = zeros m n g h
second_one tags known a (OneType (types.Pointer u)) m n g h = zeros m n g h
second_one tags known a (OneType (types.Array u j)) m n g h = g ∙ sym h
second_one tags known a (OneType (types.Function u us)) m n g h = a.one m n (TypeList us) g h
second_one tags known a (TypeList types.NoType) m n g h = zeros m n g h
second_one tags known a (TypeList (types.MoreType u us)) m n g h = a.one m n (TypeList us) g h

-- two shapes that say one thing are one
pub one_shape : (tags : List (List ℕ)) (known : List Known) → AreApart tags known → (s t : Shape) (k : Known) → says tags known s ≡ Some k → says tags known t ≡ Some k → s ≡ t
one_shape tags known a s t k g h =
    let x = shape_of tags known s k g in
    let y = shape_of tags known t k h in
    let e : former s ≡ former t = x.as_former ∙ sym y.as_former in
    let f = first_one tags known a k (first s) (first t) x.as_first y.as_first in
    let i = second_one tags known a k (second s) (second t) x.as_second y.as_second in
    sym (rebuilt_self s) ∙ (ap (λ c. rebuilt c (first s) (second s)) e ∙ (ap (λ m. rebuilt (former t) m (second s)) f ∙ (ap (λ m. rebuilt (former t) (first t) m) i ∙ rebuilt_self t)))

-- ---- what is said stays said

kept_type : (old new : List Known) (t : ℕ) (f : CType → CType) (k : Known) (o : Option Known) → ((n : ℕ) (x : Known) → slice_get old n ≡ Some x → slice_get new n ≡ Some x) → slice_get old t ≡ o → of_type o f ≡ Some k → of_type (slice_get new t) f ≡ Some k
kept_type old new t f k (Some x) grows e h = ap (λ p. of_type p f) (grows t x e) ∙ h
kept_type old new t f k None grows e h = cc

kept_list : (old new : List Known) (u : CType) (ts : ℕ) (f : CType → CTypes → Known) (k : Known) (p : Option Known) → ((n : ℕ) (x : Known) → slice_get old n ≡ Some x → slice_get new n ≡ Some x) → slice_get old ts ≡ p → with_list u p f ≡ Some k → with_list u (slice_get new ts) f ≡ Some k
kept_list old new u ts f k (Some x) grows e h = ap (λ p. with_list u p f) (grows ts x e) ∙ h
kept_list old new u ts f k None grows e h = cc

kept_both : (old new : List Known) (t ts : ℕ) (f : CType → CTypes → Known) (k : Known) (o : Option Known) → ((n : ℕ) (x : Known) → slice_get old n ≡ Some x → slice_get new n ≡ Some x) → slice_get old t ≡ o → of_both o (slice_get old ts) f ≡ Some k → of_both (slice_get new t) (slice_get new ts) f ≡ Some k
kept_both old new t ts f k (Some (OneType u)) grows e h = ap (λ p. of_both p (slice_get new ts) f) (grows t (OneType u) e) ∙ kept_list old new u ts f k (slice_get old ts) grows refl h
kept_both old new t ts f k (Some (TypeList us)) grows e h = cc
kept_both old new t ts f k None grows e h = cc

pub said : (tags : List (List ℕ)) (old new : List Known) → ((n : ℕ) (x : Known) → slice_get old n ≡ Some x → slice_get new n ≡ Some x) → (s : Shape) (k : Known) → says tags old s ≡ Some k → says tags new s ≡ Some k
said tags old new grows Void k h = h
said tags old new grows Int k h = h
said tags old new grows Unsigned k h = h
said tags old new grows Char k h = h
said tags old new grows UChar k h = h
said tags old new grows Null k h = h
said tags old new grows (Struct n) k h = h
said tags old new grows (Pointer t) k h = kept_type old new t (λ u. types.Pointer u) k (slice_get old t) grows refl h
said tags old new grows (Array t n) k h = kept_type old new t (λ u. types.Array u n) k (slice_get old t) grows refl h
said tags old new grows (Function t ts) k h = kept_both old new t ts (λ u us. OneType (types.Function u us)) k (slice_get old t) grows refl h
said tags old new grows NoType k h = h
said tags old new grows (MoreType t ts) k h = kept_both old new t ts (λ u us. TypeList (types.MoreType u us)) k (slice_get old t) grows refl h
