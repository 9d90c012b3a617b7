-- Types and scopes of a text within the limits.
use Rattle.std.specs.Prelude.{◌≡◌, ℕ, ◌*◌, ◌<◌, ◌≤◌, true, List, [], ◌∷◌, Option, Some}
use Rattle.c_syntax.specs.Words.{meaning}
use Rattle.c_types.specs.Types.{CType, CTypes, Pointer, Array, Function, NoType, MoreType, Layout, Members, Tags, words_of, is_object_type}
use Rattle.c_types.specs.Scope.{Scope, Entity, Object, Routine, BuiltIn, entity_of}
use Rattle.c_types.specs.Expressions.{is_result_type}
use Rattle.c_types.specs.Declarations.{words_of_members}
use Rattle.c_types.specs.Limits.{most_words}

abbrev mutual
  -- each array in a type has objects as elements and no more words than the limit, and each function gives nothing or a word
  pub IsGood : Tags → CType → Type 0
  IsGood tags (Pointer t) = IsGood tags t
  IsGood tags (Array t n) = IsGood tags t × (is_object_type tags t ≡ true) × (n * words_of tags t ≤ most_words)
  IsGood tags (Function t ts) = IsGood tags t × AreGood tags ts × (is_result_type t ≡ true)
  IsGood tags _ = Unit {0}

  pub AreGood : Tags → CTypes → Type 0
  AreGood tags NoType = Unit {0}
  AreGood tags (MoreType t ts) = IsGood tags t × AreGood tags ts

-- the types of members
abbrev pub EachIsGood : Tags → List (List ℕ × CType) → Type 0
EachIsGood tags [] = Unit {0}
EachIsGood tags (m ∷ ms) = IsGood tags m.1 × EachIsGood tags ms

abbrev pub EachIsObject : Tags → List (List ℕ × CType) → Type 0
EachIsObject tags [] = Unit {0}
EachIsObject tags (m ∷ ms) = (is_object_type tags m.1 ≡ true) × EachIsObject tags ms

-- the members of a tag are objects, and take so many words, at least one
pub record MembersAreGood (tags : Tags) (ms : List (List ℕ × CType)) (words : ℕ) : Type 0 where
  pub sum : words_of_members tags ms ≡ words
  pub short : words ≤ most_words
  pub some : 0 < words
  pub types : EachIsGood tags ms
  pub objects : EachIsObject tags ms

abbrev pub LayoutIsGood : Tags → Option Layout → Type 0
LayoutIsGood tags (Some (Members ms words)) = MembersAreGood tags ms words
LayoutIsGood tags _ = Unit {0}

pub record TagsAreGood (tags : Tags) : Type 0 where
  pub at : (tag : List ℕ) → LayoutIsGood tags (meaning tags tag)

-- what a name stands for has such a type
abbrev pub EntityIsGood : Tags → Option Entity → Type 0
EntityIsGood tags (Some (Object t)) = IsGood tags t
EntityIsGood tags (Some (Routine t begun)) = IsGood tags t
EntityIsGood tags (Some (BuiltIn t)) = IsGood tags t
EntityIsGood tags _ = Unit {0}

pub record ScopeIsGood (s : Scope) : Type 0 where
  pub tags : TagsAreGood s.tags
  pub names : (name : List ℕ) → EntityIsGood s.tags (entity_of s name)
