-- The members of tags, by the numbers of the tags.
use Rattle.std.specs.Prelude.{◌≡◌, ℕ, Bool, true, false, List, Option, Some, None, slice_get}
use Rattle.std.specs.Map.{lookup}
use Rattle.std.specs.Str.{bytes_eq}
use denote.Ref.{Bor}
use Rattle.c_syntax.specs.Words.{meaning}
use Rattle.c_types.specs.Types as types
use Rattle.c_types.specs.Types.{CType, Tags}
use Rattle.c_types.specs.declared.words.Words.{Words}
use Rattle.c_types.specs.Seen.{Counts}
use Rattle.c_types.specs.declared.shape.Shape.{Shape}
use Rattle.c_types.specs.declared.shape.Shape.TheVariants as shape
use Rattle.c_types.specs.Known.{Known, OneType}
use Rattle.c_types.specs.Table.{Table, known}
use Rattle.c_layouts.specs.declared.layout.Layout.{Layout}
use Rattle.c_layouts.specs.declared.layout.Layout.TheVariants.{Undeclared, Unfinished, Members}

-- a member is found where there is one, with the number of its type
abbrev pub IsMember : List Known → Option ℕ → Option CType → Type 0
IsMember all None o = o ≡ None
IsMember all (Some n) (Some t) = slice_get all n ≡ Some (OneType t)
IsMember all (Some n) None = ⊥

-- a tag has these members, which take so many words
pub record AreMembers (all : List Known) (entries : List (Bor (List ℕ) × ℕ)) (words : Words) (o : Option types.Layout) : Type 0 where
  pub members : List (List ℕ × CType)
  pub count : ℕ
  pub is : o ≡ Some (types.Members members count)
  pub found : (name : List ℕ) → IsMember all (lookup (λ k. bytes_eq name k.now) entries) (meaning members name)
  pub counts : Counts words count

abbrev pub LayoutIs : List Known → Layout → Option types.Layout → Type 0
LayoutIs all Undeclared o = o ≡ None
LayoutIs all Unfinished o = o ≡ Some types.Unfinished
LayoutIs all (Members map words) o = AreMembers all map.entries words o

abbrev pub LayoutIsThere : List Known → Option Layout → Option types.Layout → Type 0
LayoutIsThere all (Some layout) o = LayoutIs all layout o
LayoutIsThere all None o = ⊥

abbrev pub LayoutAt : List Known → List Layout → ℕ → Option types.Layout → Type 0
LayoutAt all layouts n o = LayoutIsThere all (slice_get layouts n) o

-- each tag has its layout at its number
abbrev pub AreLayouts : Table → List Layout → Tags → Type 0
AreLayouts table layouts tags = (n : ℕ) (tag : List ℕ) → slice_get table.tags n ≡ Some tag → LayoutAt (known table) layouts n (meaning tags tag)

abbrev pub array_parts : Shape → Option (ℕ × ℕ)
array_parts (shape.Array t n) = Some (t, n)
array_parts _ = None

abbrev pub tag_of : Shape → Option ℕ
tag_of (shape.Struct n) = Some n
tag_of _ = None

-- the words of what is no array and no struct
abbrev pub plain_words : Shape → ℕ
plain_words shape.Void = 0
plain_words (shape.Function t ts) = 0
plain_words shape.NoType = 0
plain_words (shape.MoreType t ts) = 0
plain_words _ = 1

-- whether an object may have the type of such
abbrev pub plain_object : Shape → Bool
plain_object shape.Void = false
plain_object shape.Null = false
plain_object (shape.Function t ts) = false
plain_object shape.NoType = false
plain_object (shape.MoreType t ts) = false
plain_object _ = true
