-- Structs by the numbers of their tags.
use Rattle.std.proofs.Common.{◌≡◌, ℕ, List, Option, Some, None, sym, ap, subst, ◌∙◌, refl}
use Rattle.std.specs.Prelude.{slice_get}
use Rattle.c_types.specs.Types as types
use Rattle.c_types.specs.Types.{CType}
use Rattle.c_types.specs.declared.shape.Shape.{Shape}
use Rattle.c_types.specs.declared.shape.Shape.TheVariants as shape
use Rattle.c_types.specs.Known.{Known, OneType, TypeList, of_tag, of_type, says}
use Rattle.c_layouts.specs.Layouts.{array_parts, tag_of}

some_type : (t u : CType) → Some (OneType t) ≡ Some (OneType u) → t ≡ u
some_type t u e = cc

none_some : {A : Type 0} {x : A} → None ≡ Some x → ⊥
none_some e = cc

tag_name : (o : Option (List ℕ)) (t : CType) → of_tag o ≡ Some (OneType t) → (tag : List ℕ) × (t ≡ types.Struct tag) × (o ≡ Some tag)
tag_name (Some tag) t h = (tag, sym (some_type (types.Struct tag) t h), refl)
tag_name None t h = absurd (none_some h)

pub tag_is : (tags : List (List ℕ)) (known : List Known) (s : Shape) (n : ℕ) (t : CType) → tag_of s ≡ Some n → says tags known s ≡ Some (OneType t) → (tag : List ℕ) × (t ≡ types.Struct tag) × (slice_get tags n ≡ Some tag)
tag_is tags known (shape.Struct m) n t e h =
    let p = tag_name (slice_get tags m) t h in
    let same : m ≡ n = cc in
    (p.0, p.1, ap (slice_get tags) (sym same) ∙ p.2)
tag_is tags known shape.Void n t e h = absurd (none_some e)
tag_is tags known _ n t e h = absurd (none_some e)

array_of : (o : Option Known) (n : ℕ) (t : CType) → of_type o (λ u. types.Array u n) ≡ Some (OneType t) → (v : CType) × (t ≡ types.Array v n) × (o ≡ Some (OneType v))
array_of (Some (OneType v)) n t h = (v, sym (some_type (types.Array v n) t h), refl)
array_of (Some (TypeList us)) n t h = absurd (none_some h)
array_of None n t h = absurd (none_some h)

same_parts : (p q : ℕ × ℕ) → Some p ≡ Some q → p ≡ q
same_parts p q e = cc

pub array_is : (names : List (List ℕ)) (known : List Known) (s : Shape) (p : ℕ × ℕ) (t : CType) → array_parts s ≡ Some p → says names known s ≡ Some (OneType t) → (v : CType) × (t ≡ types.Array v p.1) × (slice_get known p.0 ≡ Some (OneType v))
array_is names known (shape.Array u m) p t e h =
    let r = array_of (slice_get known u) m t h in
    let same = same_parts (u, m) p e in
    (r.0, r.1 ∙ ap (λ (q : ℕ × ℕ). types.Array r.0 q.1) same, subst (λ (q : ℕ × ℕ). slice_get known q.0 ≡ Some (OneType r.0)) same r.2)
array_is names known shape.Void p t e h = absurd (none_some e)
array_is names known _ p t e h = absurd (none_some e)
