-- Types by their parts, and which of them are too wide.
use Rattle.std.proofs.Common.{◌≡◌, ℕ, zero, suc, ◌+◌, ◌<◌, Bool, true, false, ◌||◌, List, [], ◌∷◌, Option, Some, None, refl, sym, ap, subst, ◌∙◌, if◌then◌else◌, arith}
use Rattle.std.specs.Prelude.{nat_lt, nat_le, not, slice_get}
use Rattle.c_types.specs.Types as types
use Rattle.c_types.specs.Types.{CType, CTypes, Tags, words_of}
use Rattle.c_types.specs.Limits.{most_words, is_over, wide_types, wide_types_in}
use Rattle.c_types.specs.declared.shape.Shape.{Shape}
use Rattle.c_types.specs.declared.shape.Shape.TheVariants as shape
use Rattle.c_types.specs.Table.{PartsBelow}
use Rattle.c_types.specs.Known.{Known, OneType, TypeList, of_tag, of_type, of_both, says}
use Rattle.c_weights.specs.declared.wide.Parts.{Parts}
use Rattle.c_weights.specs.declared.wide.Parts.TheVariants as parts
use Rattle.c_weights.specs.Shapes.{parts_in}
use Rattle.c_weights.proofs.SumLemmas.{either, both_wide}

-- whether a number of words is too great
pub over : (b : Bool) (w : ℕ) → b ≡ nat_le w most_words → not b ≡ nat_lt 0 (is_over w)
over b w h = ap not h ∙ by (nat_le w most_words) where
  by : (k : Bool) → not k ≡ nat_lt 0 (if k then 0 else 1)
  by true = refl
  by false = refl

some_type : (t u : CType) → Some (OneType t) ≡ Some (OneType u) → t ≡ u
some_type t u e = cc

some_list : (t u : CTypes) → Some (TypeList t) ≡ Some (TypeList u) → t ≡ u
some_list t u e = cc

-- ---- a pointer, or an array

of_one : (o : Option Known) (f : CType → CType) (t : CType) → of_type o f ≡ Some (OneType t) → (u : CType) × (t ≡ f u) × (o ≡ Some (OneType u))
of_one (Some (OneType u)) f t h = (u, sym (some_type (f u) t h), refl)
of_one (Some (TypeList us)) f t h = absurd cc
of_one None f t h = absurd cc

no_list : (o : Option Known) (f : CType → CType) (ts : CTypes) → of_type o f ≡ Some (TypeList ts) → ⊥
no_list (Some (OneType u)) f ts h = cc
no_list (Some (TypeList us)) f ts h = cc
no_list None f ts h = cc

pub pointer_is : (tags : List (List ℕ)) (all : List Known) (s : Shape) (n : ℕ) (t : CType) → parts_in s ≡ parts.Pointer n → says tags all s ≡ Some (OneType t) → (u : CType) × (t ≡ types.Pointer u) × (slice_get all n ≡ Some (OneType u))
pointer_is tags all (shape.Pointer m) n t e h =
    let k = of_one (slice_get all m) (λ u. types.Pointer u) t h in
    let same : m ≡ n = cc in
    (k.0, k.1, ap (slice_get all) (sym same) ∙ k.2)
pointer_is tags all shape.Void n t e h = absurd cc
pointer_is tags all _ n t e h = absurd cc

pub pointer_lists : (tags : List (List ℕ)) (all : List Known) (s : Shape) (n : ℕ) (ts : CTypes) → parts_in s ≡ parts.Pointer n → says tags all s ≡ Some (TypeList ts) → ⊥
pointer_lists tags all (shape.Pointer m) n ts e h = no_list (slice_get all m) (λ u. types.Pointer u) ts h
pointer_lists tags all shape.Void n ts e h = cc
pointer_lists tags all _ n ts e h = cc

pub array_is : (tags : List (List ℕ)) (all : List Known) (s : Shape) (n : ℕ) (t : CType) → parts_in s ≡ parts.Array n → says tags all s ≡ Some (OneType t) → (u : CType) × (m : ℕ) × (t ≡ types.Array u m) × (slice_get all n ≡ Some (OneType u))
array_is tags all (shape.Array p q) n t e h =
    let k = of_one (slice_get all p) (λ u. types.Array u q) t h in
    let same : p ≡ n = cc in
    (k.0, q, k.1, ap (slice_get all) (sym same) ∙ k.2)
array_is tags all shape.Void n t e h = absurd cc
array_is tags all _ n t e h = absurd cc

pub array_lists : (tags : List (List ℕ)) (all : List Known) (s : Shape) (n : ℕ) (ts : CTypes) → parts_in s ≡ parts.Array n → says tags all s ≡ Some (TypeList ts) → ⊥
array_lists tags all (shape.Array p q) n ts e h = no_list (slice_get all p) (λ u. types.Array u q) ts h
array_lists tags all shape.Void n ts e h = cc
array_lists tags all _ n ts e h = cc

-- ---- a type and a list

pub record AreBoth (all : List Known) (a b : ℕ) (t : CType) (ts : CTypes) : Type 0 where
  pub first : slice_get all a ≡ Some (OneType t)
  pub others : slice_get all b ≡ Some (TypeList ts)

of_two : (all : List Known) (a b : ℕ) (o p : Option Known) (f : CType → CTypes → Known) (k : Known) → slice_get all a ≡ o → slice_get all b ≡ p → of_both o p f ≡ Some k → (t : CType) × (ts : CTypes) × (k ≡ f t ts) × AreBoth all a b t ts
of_two all a b (Some (OneType t)) (Some (TypeList ts)) f k e g h = (t, ts, cc, record { first = e; others = g })
of_two all a b (Some (OneType t)) (Some (OneType u)) f k e g h = absurd cc
of_two all a b (Some (OneType t)) None f k e g h = absurd cc
of_two all a b (Some (TypeList ts)) p f k e g h = absurd cc
of_two all a b None p f k e g h = absurd cc

one_function : (t u : CType) (us : CTypes) → OneType t ≡ OneType (types.Function u us) → t ≡ types.Function u us
one_function t u us e = cc

one_list : (ts us : CTypes) (u : CType) → TypeList ts ≡ TypeList (types.MoreType u us) → ts ≡ types.MoreType u us
one_list ts us u e = cc

not_function : (ts us : CTypes) (u : CType) → TypeList ts ≡ OneType (types.Function u us) → ⊥
not_function ts us u e = cc

not_list : (t u : CType) (us : CTypes) → OneType t ≡ TypeList (types.MoreType u us) → ⊥
not_list t u us e = cc

both_same : (m n p q : ℕ) → parts.Both m n ≡ parts.Both p q → (m ≡ p) × (n ≡ q)
both_same m n p q e = (cc, cc)

pub function_is : (tags : List (List ℕ)) (all : List Known) (s : Shape) (a b : ℕ) (t : CType) → parts_in s ≡ parts.Both a b → says tags all s ≡ Some (OneType t) → (u : CType) × (us : CTypes) × (t ≡ types.Function u us) × AreBoth all a b u us
function_is tags all (shape.Function p q) a b t e h =
    let k = of_two all p q (slice_get all p) (slice_get all q) (λ u us. OneType (types.Function u us)) (OneType t) refl refl h in
    let same = both_same p q a b e in
    (k.0, k.1, one_function t k.0 k.1 k.2, record { first = ap (slice_get all) (sym same.0) ∙ k.3.first; others = ap (slice_get all) (sym same.1) ∙ k.3.others })
function_is tags all (shape.MoreType p q) a b t e h =
    let k = of_two all p q (slice_get all p) (slice_get all q) (λ u us. TypeList (types.MoreType u us)) (OneType t) refl refl h in
    absurd (not_list t k.0 k.1 k.2)
function_is tags all shape.Void a b t e h = absurd cc
function_is tags all _ a b t e h = absurd cc

pub list_is : (tags : List (List ℕ)) (all : List Known) (s : Shape) (a b : ℕ) (ts : CTypes) → parts_in s ≡ parts.Both a b → says tags all s ≡ Some (TypeList ts) → (u : CType) × (us : CTypes) × (ts ≡ types.MoreType u us) × AreBoth all a b u us
list_is tags all (shape.MoreType p q) a b ts e h =
    let k = of_two all p q (slice_get all p) (slice_get all q) (λ u us. TypeList (types.MoreType u us)) (TypeList ts) refl refl h in
    let same = both_same p q a b e in
    (k.0, k.1, one_list ts k.1 k.0 k.2, record { first = ap (slice_get all) (sym same.0) ∙ k.3.first; others = ap (slice_get all) (sym same.1) ∙ k.3.others })
list_is tags all (shape.Function p q) a b ts e h =
    let k = of_two all p q (slice_get all p) (slice_get all q) (λ u us. OneType (types.Function u us)) (TypeList ts) refl refl h in
    absurd (not_function ts k.1 k.0 k.2)
list_is tags all shape.Void a b ts e h = absurd cc
list_is tags all _ a b ts e h = absurd cc

-- ---- what has no parts

pub empty_is : (tags : List (List ℕ)) (all : List Known) (s : Shape) (ts : CTypes) → parts_in s ≡ parts.Empty → says tags all s ≡ Some (TypeList ts) → ts ≡ types.NoType
empty_is tags all shape.NoType ts e h = sym (some_list types.NoType ts h)
empty_is tags all shape.Void ts e h = absurd cc
empty_is tags all _ ts e h = absurd cc

pub empty_types : (tags : List (List ℕ)) (all : List Known) (s : Shape) (t : CType) → parts_in s ≡ parts.Empty → says tags all s ≡ Some (OneType t) → ⊥
empty_types tags all shape.NoType t e h = cc
empty_types tags all shape.Void t e h = cc
empty_types tags all _ t e h = cc

whole_tag : (o : Option (List ℕ)) (t : CType) (tags : Tags) → of_tag o ≡ Some (OneType t) → wide_types tags t ≡ is_over (words_of tags t)
whole_tag (Some tag) t tags h = subst (λ (u : CType). wide_types tags u ≡ is_over (words_of tags u)) (some_type (types.Struct tag) t h) refl
whole_tag None t tags h = absurd cc

pub whole_is : (names : List (List ℕ)) (all : List Known) (s : Shape) (t : CType) (tags : Tags) → parts_in s ≡ parts.Whole → says names all s ≡ Some (OneType t) → wide_types tags t ≡ is_over (words_of tags t)
whole_is names all shape.Void t tags e h = subst (λ (u : CType). wide_types tags u ≡ is_over (words_of tags u)) (some_type types.Void t h) refl
whole_is names all shape.Int t tags e h = subst (λ (u : CType). wide_types tags u ≡ is_over (words_of tags u)) (some_type types.Int t h) refl
whole_is names all shape.Unsigned t tags e h = subst (λ (u : CType). wide_types tags u ≡ is_over (words_of tags u)) (some_type types.Unsigned t h) refl
whole_is names all shape.Char t tags e h = subst (λ (u : CType). wide_types tags u ≡ is_over (words_of tags u)) (some_type types.Char t h) refl
whole_is names all shape.UChar t tags e h = subst (λ (u : CType). wide_types tags u ≡ is_over (words_of tags u)) (some_type types.UChar t h) refl
whole_is names all shape.Null t tags e h = subst (λ (u : CType). wide_types tags u ≡ is_over (words_of tags u)) (some_type types.Null t h) refl
whole_is names all (shape.Struct n) t tags e h = whole_tag (slice_get names n) t tags h
whole_is names all (shape.Pointer n) t tags e h = absurd cc
whole_is names all (shape.Array n m) t tags e h = absurd cc
whole_is names all (shape.Function n m) t tags e h = absurd cc
whole_is names all shape.NoType t tags e h = absurd cc
whole_is names all (shape.MoreType n m) t tags e h = absurd cc

pub whole_lists : (names : List (List ℕ)) (all : List Known) (s : Shape) (ts : CTypes) → parts_in s ≡ parts.Whole → says names all s ≡ Some (TypeList ts) → ⊥
whole_lists names all (shape.Struct n) ts e h = by (slice_get names n) h where
  by : (o : Option (List ℕ)) → of_tag o ≡ Some (TypeList ts) → ⊥
  by (Some tag) k = cc
  by None k = cc
whole_lists names all shape.Void ts e h = cc
whole_lists names all shape.NoType ts e h = cc
whole_lists names all _ ts e h = cc

-- ---- parts have lower numbers

pub both_below : (s : Shape) (a b m : ℕ) → parts_in s ≡ parts.Both a b → PartsBelow s m → (a < m) × (b < m)
both_below (shape.Function k l) a b m e h = let same = both_same k l a b e in (subst (λ (i : ℕ). i < m) same.0 h.0, subst (λ (i : ℕ). i < m) same.1 h.1)
both_below (shape.MoreType k l) a b m e h = let same = both_same k l a b e in (subst (λ (i : ℕ). i < m) same.0 h.0, subst (λ (i : ℕ). i < m) same.1 h.1)
both_below shape.Void a b m e h = absurd cc
both_below _ a b m e h = absurd cc
