-- Types and lists of types by number.
use Rattle.std.specs.Prelude.{◌≡◌, ℕ, List, [], ◌∷◌, ◌++◌, Option, Some, None, slice_get}
use Rattle.c_types.specs.Types as types
use Rattle.c_types.specs.Types.{CType, CTypes}
use Rattle.c_types.specs.declared.shape.Shape.{Shape}
use Rattle.c_types.specs.declared.shape.Shape.TheVariants.{Void, Int, Unsigned, Char, UChar, Null, Struct, Pointer, Array, Function, NoType, MoreType}

-- what a number is that of
pub data Known : Type 0 where
  OneType : (t : CType) → Known
  TypeList : (ts : CTypes) → Known

abbrev pub of_tag : Option (List ℕ) → Option Known
of_tag (Some tag) = Some (OneType (types.Struct tag))
of_tag None = None

abbrev pub of_type : Option Known → (CType → CType) → Option Known
of_type (Some (OneType t)) f = Some (OneType (f t))
of_type _ f = None

abbrev pub with_list : CType → Option Known → (CType → CTypes → Known) → Option Known
with_list t (Some (TypeList ts)) f = Some (f t ts)
with_list t _ f = None

abbrev pub of_both : Option Known → Option Known → (CType → CTypes → Known) → Option Known
of_both (Some (OneType t)) list f = with_list t list f
of_both _ list f = None

-- what a shape says, by the tags and what is known
abbrev pub says : List (List ℕ) → List Known → Shape → Option Known
says tags known Void = Some (OneType types.Void)
says tags known Int = Some (OneType types.Int)
says tags known Unsigned = Some (OneType types.Unsigned)
says tags known Char = Some (OneType types.Char)
says tags known UChar = Some (OneType types.UChar)
says tags known Null = Some (OneType types.Null)
says tags known (Struct n) = of_tag (slice_get tags n)
says tags known (Pointer t) = of_type (slice_get known t) (λ u. types.Pointer u)
says tags known (Array t n) = of_type (slice_get known t) (λ u. types.Array u n)
says tags known (Function t ts) = of_both (slice_get known t) (slice_get known ts) (λ u us. OneType (types.Function u us))
says tags known NoType = Some (TypeList types.NoType)
says tags known (MoreType t ts) = of_both (slice_get known t) (slice_get known ts) (λ u us. TypeList (types.MoreType u us))

-- what was known keeps its number
abbrev pub Grows : List Known → List Known → Type 0
Grows old new = (n : ℕ) (k : Known) → slice_get old n ≡ Some k → slice_get new n ≡ Some k
