-- Words of types, and the types that operators give.
use Rattle.std.proofs.Common.{◌≡◌, ℕ, zero, suc, ◌+◌, ◌*◌, ◌<◌, ◌≤◌, Bool, true, false, ◌&&◌, ◌||◌, List, [], ◌∷◌, Option, Some, None, refl, arith, if◌then◌else◌}
use Rattle.std.specs.Prelude.{◌^◌, nat_lt}
use Rattle.std.specs.Str.{bytes_eq}
use Rattle.std.proofs.lemmas.Bool.{and_parts}
use Rattle.std.proofs.lemmas.Bool.Decides.{nat_tests}
use Rattle.c_syntax.specs.Words.{meaning}
use Rattle.c_types.specs.Types.{same_type, CType, Void, Int, Unsigned, Char, UChar, Null, Struct, Pointer, Array, Function, is_arithmetic, is_scalar, is_unsigned, is_pointer, decayed, common_type, Layout, Unfinished, Members, Tags, layout_words, is_finished, words_of, is_object_type}
use Rattle.c_types.specs.Operands.{is_element_pointer, when, or_else, sum_type, difference_type}
use Rattle.c_types.specs.Expressions.{is_result_type}
use Rattle.c_types.specs.Declarations.{words_of_members}
use Rattle.c_types.specs.Limits.{most_words}
use Rattle.c_eval.specs.Operators.{element_words}
use Rattle.c_eval.specs.Environment.{words_before, offset_in, member_offset}
use Rattle.c_fitting.specs.Good.{IsGood, LayoutIsGood, TagsAreGood}

-- ---- words

layout_short : (tags : Tags) (o : Option Layout) → LayoutIsGood tags o → layout_words o ≤ most_words
layout_short tags None g = omega arith
layout_short tags (Some Unfinished) g = omega arith
layout_short tags (Some (Members ms words)) g = g.short

pub words_short : (tags : Tags) → TagsAreGood tags → (t : CType) → IsGood tags t → words_of tags t ≤ most_words
words_short tags h (Struct tag) g = layout_short tags (meaning tags tag) (h.at tag)
words_short tags h (Array t n) g = g.2
words_short tags h Void g = omega arith
words_short tags h (Function t ts) g = omega arith
words_short tags h Int g = omega arith
words_short tags h Unsigned g = omega arith
words_short tags h Char g = omega arith
words_short tags h UChar g = omega arith
words_short tags h Null g = omega arith
words_short tags h (Pointer t) g = omega arith

layout_some : (tags : Tags) (o : Option Layout) → LayoutIsGood tags o → is_finished o ≡ true → 0 < layout_words o
layout_some tags None g f = absurd cc
layout_some tags (Some Unfinished) g f = absurd cc
layout_some tags (Some (Members ms words)) g f = g.some

positive : (n w : ℕ) → nat_lt 0 n ≡ true → 0 < w → 0 < n * w
positive zero w h p = absurd (grind (arith, nat_tests))
positive (suc n) zero h p = omega (arith, p)
positive (suc n) (suc w) h p = omega arith

-- an object has at least one word
pub object_words : (tags : Tags) → TagsAreGood tags → (t : CType) → is_object_type tags t ≡ true → 0 < words_of tags t
object_words tags h (Struct tag) o = layout_some tags (meaning tags tag) (h.at tag) o
object_words tags h (Array t n) o = let p = and_parts (is_object_type tags t) (nat_lt 0 n) o in positive n (words_of tags t) p.1 (object_words tags h t p.0)
object_words tags h Void o = absurd cc
object_words tags h (Function t ts) o = absurd cc
object_words tags h Int o = omega arith
object_words tags h Unsigned o = omega arith
object_words tags h Char o = omega arith
object_words tags h UChar o = omega arith
object_words tags h Null o = absurd cc
object_words tags h (Pointer t) o = omega arith

-- elements fit a word
pub element_below : (tags : Tags) → TagsAreGood tags → (t : CType) → IsGood tags t → element_words tags t < 2 ^ 24
element_below tags h (Pointer t) g = let s = words_short tags h t g in omega (arith, s)
element_below tags h (Struct tag) g = omega arith
element_below tags h (Array t n) g = omega arith
element_below tags h Void g = omega arith
element_below tags h (Function t ts) g = omega arith
element_below tags h Int g = omega arith
element_below tags h Unsigned g = omega arith
element_below tags h Char g = omega arith
element_below tags h UChar g = omega arith
element_below tags h Null g = omega arith

-- members stand within their struct
before_short : (tags : Tags) (ms : List (List ℕ × CType)) (name : List ℕ) → words_before tags ms name ≤ words_of_members tags ms
before_short tags [] name = omega arith
before_short tags (m ∷ ms) name = by_name (bytes_eq name m.0) (before_short tags ms name)
  where
    by_name : (b : Bool) → words_before tags ms name ≤ words_of_members tags ms → (if b then 0 else words_of tags m.1 + words_before tags ms name) ≤ words_of tags m.1 + words_of_members tags ms
    by_name true r = omega arith
    by_name false r = omega (arith, r)

offset_below : (tags : Tags) (name : List ℕ) (o : Option Layout) → LayoutIsGood tags o → offset_in tags name o < 2 ^ 24
offset_below tags name None g = omega arith
offset_below tags name (Some Unfinished) g = omega arith
offset_below tags name (Some (Members ms words)) g = let b = before_short tags ms name in let e = g.sum in let s = g.short in omega (arith, b, e, s)

pub member_below : (tags : Tags) → TagsAreGood tags → (t : CType) (name : List ℕ) → member_offset tags t name < 2 ^ 24
member_below tags h (Struct tag) name = offset_below tags name (meaning tags tag) (h.at tag)
member_below tags h (Pointer t) name = omega arith
member_below tags h (Array t n) name = omega arith
member_below tags h Void name = omega arith
member_below tags h (Function t ts) name = omega arith
member_below tags h Int name = omega arith
member_below tags h Unsigned name = omega arith
member_below tags h Char name = omega arith
member_below tags h UChar name = omega arith
member_below tags h Null name = omega arith

-- ---- values

-- an array or a struct is no value of its own
abbrev pub is_aggregate : CType → Bool
is_aggregate (Struct tag) = true
is_aggregate (Array t n) = true
is_aggregate _ = false

pub record IsValue (tags : Tags) (t : CType) : Type 0 where
  pub good : IsGood tags t
  pub single : is_aggregate t ≡ false

pub int_value : (tags : Tags) → IsValue tags Int
int_value tags = record { good = tt; single = refl }

pub unsigned_value : (tags : Tags) → IsValue tags Unsigned
unsigned_value tags = record { good = tt; single = refl }

pub word_value : (tags : Tags) (b : Bool) → IsValue tags (if b then Unsigned else Int)
word_value tags true = unsigned_value tags
word_value tags false = int_value tags

pub decayed_good : (tags : Tags) (t : CType) → IsGood tags t → IsGood tags (decayed t)
decayed_good tags (Array t n) g = g.0
decayed_good tags (Struct tag) g = g
decayed_good tags (Pointer t) g = g
decayed_good tags Void g = g
decayed_good tags (Function t ts) g = g
decayed_good tags Int g = g
decayed_good tags Unsigned g = g
decayed_good tags Char g = g
decayed_good tags UChar g = g
decayed_good tags Null g = g

pub scalar_single : (t : CType) → is_scalar t ≡ true → is_aggregate t ≡ false
scalar_single (Struct tag) h = absurd cc
scalar_single (Array t n) h = absurd cc
scalar_single (Pointer t) h = refl
scalar_single Void h = refl
scalar_single (Function t ts) h = refl
scalar_single Int h = refl
scalar_single Unsigned h = refl
scalar_single Char h = refl
scalar_single UChar h = refl
scalar_single Null h = refl

pub scalar_decayed : (t : CType) → is_scalar t ≡ true → decayed t ≡ t
scalar_decayed (Struct tag) h = refl
scalar_decayed (Array t n) h = absurd cc
scalar_decayed (Pointer t) h = refl
scalar_decayed Void h = refl
scalar_decayed (Function t ts) h = refl
scalar_decayed Int h = refl
scalar_decayed Unsigned h = refl
scalar_decayed Char h = refl
scalar_decayed UChar h = refl
scalar_decayed Null h = refl

pub result_single : (t : CType) → is_result_type t ≡ true → is_aggregate t ≡ false
result_single (Struct tag) h = absurd cc
result_single (Array t n) h = absurd cc
result_single (Pointer t) h = refl
result_single Void h = refl
result_single (Function t ts) h = refl
result_single Int h = refl
result_single Unsigned h = refl
result_single Char h = refl
result_single UChar h = refl
result_single Null h = refl

pub arithmetic_single : (t : CType) → is_arithmetic t ≡ true → is_aggregate t ≡ false
arithmetic_single (Struct tag) h = absurd cc
arithmetic_single (Array t n) h = absurd cc
arithmetic_single (Pointer t) h = refl
arithmetic_single Void h = refl
arithmetic_single (Function t ts) h = refl
arithmetic_single Int h = refl
arithmetic_single Unsigned h = refl
arithmetic_single Char h = refl
arithmetic_single UChar h = refl
arithmetic_single Null h = refl

pub pointer_single : (t : CType) → is_pointer t ≡ true → is_aggregate t ≡ false
pointer_single (Pointer t) h = refl
pointer_single Void h = refl
pointer_single (Struct tag) h = absurd cc
pointer_single (Array t n) h = absurd cc
pointer_single (Function t ts) h = refl
pointer_single Int h = refl
pointer_single Unsigned h = refl
pointer_single Char h = refl
pointer_single UChar h = refl
pointer_single Null h = refl

pub element_single : (tags : Tags) (t : CType) → is_element_pointer tags t ≡ true → is_aggregate t ≡ false
element_single tags (Pointer t) h = refl
element_single tags Void h = refl
element_single tags (Struct tag) h = absurd cc
element_single tags (Array t n) h = absurd cc
element_single tags (Function t ts) h = refl
element_single tags Int h = refl
element_single tags Unsigned h = refl
element_single tags Char h = refl
element_single tags UChar h = refl
element_single tags Null h = refl

-- where elements are counted each has a word
pub arithmetic_elements : (tags : Tags) (t : CType) → is_arithmetic t ≡ true → 0 < element_words tags t
arithmetic_elements tags (Pointer t) h = absurd cc
arithmetic_elements tags (Struct tag) h = omega arith
arithmetic_elements tags (Array t n) h = omega arith
arithmetic_elements tags Void h = omega arith
arithmetic_elements tags (Function t ts) h = omega arith
arithmetic_elements tags Int h = omega arith
arithmetic_elements tags Unsigned h = omega arith
arithmetic_elements tags Char h = omega arith
arithmetic_elements tags UChar h = omega arith
arithmetic_elements tags Null h = omega arith

pub pointer_elements : (tags : Tags) → TagsAreGood tags → (t : CType) → is_element_pointer tags t ≡ true → 0 < element_words tags t
pointer_elements tags h (Pointer t) o = object_words tags h t o
pointer_elements tags h (Struct tag) o = omega arith
pointer_elements tags h (Array t n) o = omega arith
pointer_elements tags h Void o = omega arith
pointer_elements tags h (Function t ts) o = omega arith
pointer_elements tags h Int o = omega arith
pointer_elements tags h Unsigned o = omega arith
pointer_elements tags h Char o = omega arith
pointer_elements tags h UChar o = omega arith
pointer_elements tags h Null o = omega arith

-- ---- types that may be missing

abbrev pub IfSome : {A : Type 0} → (A → Type 0) → Option A → Type 0
IfSome G None = Unit {0}
IfSome G (Some a) = G a

pub when_some : (G : CType → Type 0) (b : Bool) (t : CType) → (b ≡ true → G t) → IfSome G (when b t)
when_some G true t g = g refl
when_some G false t g = tt

pub or_else_some : (G : CType → Type 0) (o p : Option CType) → IfSome G o → IfSome G p → IfSome G (or_else o p)
or_else_some G None p g h = h
or_else_some G (Some t) p g h = g

pub sum_value : (tags : Tags) (t u : CType) → IsGood tags t → IsGood tags u → IfSome (IsValue tags) (sum_type tags t u)
sum_value tags t u g h =
    or_else_some (IsValue tags) (when (is_arithmetic t && is_arithmetic u) (common_type t u)) _ (when_some (IsValue tags) (is_arithmetic t && is_arithmetic u) (common_type t u) (λ _. word_value tags (is_unsigned t || is_unsigned u)))
    (or_else_some (IsValue tags) (when (is_element_pointer tags t && is_arithmetic u) t) (when (is_arithmetic t && is_element_pointer tags u) u)
    (when_some (IsValue tags) (is_element_pointer tags t && is_arithmetic u) t (λ e. record { good = g; single = element_single tags t (and_parts (is_element_pointer tags t) (is_arithmetic u) e).0 }))
    (when_some (IsValue tags) (is_arithmetic t && is_element_pointer tags u) u (λ e. record { good = h; single = element_single tags u (and_parts (is_arithmetic t) (is_element_pointer tags u) e).1 })))

-- what is left of a pointer to elements
abbrev pub IsCounted : Tags → CType → CType → Type 0
IsCounted tags t r = IsValue tags r × (0 < element_words tags t)

pub difference_value : (tags : Tags) → TagsAreGood tags → (t u : CType) → IsGood tags t → IfSome (IsCounted tags t) (difference_type tags t u)
difference_value tags k t u g =
    or_else_some (IsCounted tags t) (when (is_arithmetic t && is_arithmetic u) (common_type t u)) _
    (when_some (IsCounted tags t) (is_arithmetic t && is_arithmetic u) (common_type t u) (λ e. (word_value tags (is_unsigned t || is_unsigned u), arithmetic_elements tags t (and_parts (is_arithmetic t) (is_arithmetic u) e).0)))
    (or_else_some (IsCounted tags t) (when (is_element_pointer tags t && is_arithmetic u) t) _
    (when_some (IsCounted tags t) (is_element_pointer tags t && is_arithmetic u) t
    (λ e. let p = (and_parts (is_element_pointer tags t) (is_arithmetic u) e).0 in (record { good = g; single = element_single tags t p }, pointer_elements tags k t p)))
    (when_some (IsCounted tags t) (is_element_pointer tags t && same_type t u) Int
    (λ e. (int_value tags, pointer_elements tags k t (and_parts (is_element_pointer tags t) (same_type t u) e).0))))
