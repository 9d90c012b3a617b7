-- The types of C, their lengths being known.
use Rattle.std.specs.Prelude.{ℕ, ◌*◌, Bool, true, false, not, ◌&&◌, ◌||◌, ◌==◌, nat_lt, List, [], ◌∷◌, Option, Some, if◌then◌else◌}
use Rattle.std.specs.Str.{bytes_eq}
use Rattle.c_syntax.specs.Words.{meaning}

mutual
  pub data CType : Type 0 where
    Void Int Unsigned Char UChar : CType
    -- the type of `NULL` alone
    Null : CType
    Struct : (tag : List ℕ) → CType
    Pointer : (t : CType) → CType
    -- a length of 0 stands for one that the text leaves open
    Array : (t : CType) → (n : ℕ) → CType
    Function : (result : CType) → (params : CTypes) → CType

  pub data CTypes : Type 0 where
    NoType : CTypes
    MoreType : (t : CType) → (ts : CTypes) → CTypes

abbrev pub types : List CType → CTypes
types [] = NoType
types (t ∷ ts) = MoreType t (types ts)

-- the types one by one
abbrev pub each_type : CTypes → List CType
each_type NoType = []
each_type (MoreType t ts) = t ∷ each_type ts

abbrev mutual
  pub same_type : CType → CType → Bool
  same_type Void Void = true
  same_type Int Int = true
  same_type Unsigned Unsigned = true
  same_type Char Char = true
  same_type UChar UChar = true
  same_type Null Null = true
  same_type (Struct a) (Struct b) = bytes_eq a b
  same_type (Pointer t) (Pointer u) = same_type t u
  same_type (Array t m) (Array u n) = same_type t u && m == n
  same_type (Function t ts) (Function u us) = same_type t u && same_types ts us
  same_type _ _ = false

  pub same_types : CTypes → CTypes → Bool
  same_types NoType NoType = true
  same_types (MoreType t ts) (MoreType u us) = same_type t u && same_types ts us
  same_types _ _ = false

-- char, int and their unsigned kin
abbrev pub is_arithmetic : CType → Bool
is_arithmetic Int = true
is_arithmetic Unsigned = true
is_arithmetic Char = true
is_arithmetic UChar = true
is_arithmetic _ = false

-- char and int are signed
abbrev pub is_unsigned : CType → Bool
is_unsigned Unsigned = true
is_unsigned UChar = true
is_unsigned _ = false

abbrev pub is_pointer : CType → Bool
is_pointer (Pointer t) = true
is_pointer _ = false

abbrev pub is_function_pointer : CType → Bool
is_function_pointer (Pointer (Function t ts)) = true
is_function_pointer _ = false

abbrev pub is_void_pointer : CType → Bool
is_void_pointer (Pointer Void) = true
is_void_pointer _ = false

-- a pointer to an object
abbrev pub is_object_pointer : CType → Bool
is_object_pointer t = is_pointer t && not (is_function_pointer t)

abbrev pub is_void : CType → Bool
is_void Void = true
is_void _ = false

abbrev pub is_null : CType → Bool
is_null Null = true
is_null _ = false

abbrev pub is_struct : CType → Bool
is_struct (Struct tag) = true
is_struct _ = false

abbrev pub is_character : CType → Bool
is_character Char = true
is_character UChar = true
is_character _ = false

-- a type of one word: arithmetic types and pointers
abbrev pub is_scalar : CType → Bool
is_scalar t = is_arithmetic t || is_pointer t

-- an array is used as a pointer to its first element
abbrev pub decayed : CType → CType
decayed (Array t n) = Pointer t
decayed t = t

-- an operand of an arithmetic operator counts as int or as unsigned
abbrev pub promoted : CType → CType
promoted t = if is_unsigned t then Unsigned else Int

-- if one of two operands is unsigned, both count as unsigned
abbrev pub common_type : CType → CType → CType
common_type t u = if is_unsigned t || is_unsigned u then Unsigned else Int

-- a tag's members are being declared, or are these, each with its type, and take so many words
pub data Layout : Type 0 where
  Unfinished : Layout
  Members : (members : List (List ℕ × CType)) → (words : ℕ) → Layout

-- the tags that are declared, the last one first
abbrev pub Tags : Type 0
Tags = List (List ℕ × Layout)

abbrev pub layout_words : Option Layout → ℕ
layout_words (Some (Members members words)) = words
layout_words _ = 0

abbrev pub is_finished : Option Layout → Bool
is_finished (Some (Members members words)) = true
is_finished _ = false

-- how many words an object of a type takes
abbrev pub words_of : Tags → CType → ℕ
words_of tags Void = 0
words_of tags (Function t ts) = 0
words_of tags (Struct tag) = layout_words (meaning tags tag)
words_of tags (Array t n) = n * words_of tags t
words_of tags _ = 1

-- an object may have the type: no void, no function, no struct whose members aren't closed, no array of such, and no length left open
abbrev pub is_object_type : Tags → CType → Bool
is_object_type tags Void = false
is_object_type tags Null = false
is_object_type tags (Function t ts) = false
is_object_type tags (Struct tag) = is_finished (meaning tags tag)
is_object_type tags (Array t n) = is_object_type tags t && nat_lt 0 n
is_object_type tags _ = true
