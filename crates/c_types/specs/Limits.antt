-- Weight, the limits, and the answer to a tree.
use Rattle.std.specs.Prelude.{◌≡◌, ℕ, ◌+◌, ◌^◌, Bool, ◌&&◌, ◌==◌, nat_le, List, [], ◌∷◌, length, Option, Some, None, IsOk, if◌then◌else◌}
use Rattle.c_syntax.specs.Plain as plain
use Rattle.c_syntax.specs.Plain.{CExpr, CTy, CValue, CItem, CUnit}
use Rattle.c_types.specs.declared.fault.TypeFault.TheVariants as fault
use Rattle.c_types.specs.Types.{CType, CTypes, Pointer, Array, Function, NoType, MoreType, Tags, words_of}
use Rattle.c_types.specs.Refusals.{Judged, after, keeping}
use Rattle.c_types.specs.Scope.{Scope}
use Rattle.c_types.specs.Expressions.{written}
use Rattle.c_types.specs.Declarations.{declared_type, scope_or}
use Rattle.c_types.specs.Units.{unit_judged, item_judged, start_scope}
use Rattle.c_types.specs.Census.{of_type, unit_sum}

-- a string literal has a word for each byte and one for its zero
abbrev pub string_words : CExpr → ℕ
string_words (plain.Str at text) = length text + 1
string_words _ = 0

-- an object with a first value counts its words
abbrev pub initialised_words : Tags → CType → Option CValue → ℕ
initialised_words tags t None = 0
initialised_words tags t (Some v) = words_of tags t

-- the number of nodes plus the words of initialised objects and of string literals
abbrev pub weight_of : CUnit → ℕ
weight_of u = unit_sum (record { expr = λ s e. 1 + string_words e; node = 1; ty = λ tags t. 0; object = initialised_words }) u

abbrev pub most_words : ℕ
most_words = 2 ^ 22

abbrev pub is_over : ℕ → ℕ
is_over words = if nat_le words most_words then 0 else 1

abbrev mutual
  -- how many types of more words than that occur in a type
  pub wide_types : Tags → CType → ℕ
  wide_types tags (Pointer t) = wide_types tags t
  wide_types tags (Array t n) = is_over (words_of tags (Array t n)) + wide_types tags t
  wide_types tags (Function t ts) = wide_types tags t + wide_types_in tags ts
  wide_types tags t = is_over (words_of tags t)

  pub wide_types_in : Tags → CTypes → ℕ
  wide_types_in tags NoType = 0
  wide_types_in tags (MoreType t ts) = wide_types tags t + wide_types_in tags ts

-- those of a type that is written in an expression
abbrev pub wide_types_at : Scope → CExpr → ℕ
wide_types_at s (plain.Cast at t a) = of_type (wide_types s.tags) (written s at t)
wide_types_at s (plain.SizeTy at t) = of_type (wide_types s.tags) (written s at t)
wide_types_at s _ = 0

abbrev pub has_narrow_types : CUnit → Bool
has_narrow_types u = unit_sum (record { expr = wide_types_at; node = 0; ty = wide_types; object = λ tags t v. 0 }) u == 0

-- the words of all objects at file scope
abbrev pub file_words : Scope → List CItem → ℕ
file_words s [] = 0
file_words s (plain.Object d ∷ items) = of_type (words_of s.tags) (declared_type s d) + file_words (scope_or s (item_judged s (plain.Object d))) items
file_words s (item ∷ items) = file_words (scope_or s (item_judged s item)) items

abbrev pub is_small : CUnit → Bool
is_small u = nat_le (weight_of u) 65536 && nat_le (file_words (start_scope u) u.items) most_words && has_narrow_types u

-- the declarations and statements of a tree keep the rules of types, and it has a `main`
abbrev pub IsTyped : CUnit → Type 0
IsTyped u = IsOk (unit_judged u)

-- the weight of a typed tree within the limits, or the refusal; TooLarge comes after all others
abbrev pub answer_to : CUnit → Judged ℕ
answer_to u = after (unit_judged u) (λ _. keeping ((is_small u, fault.TooLarge) ∷ []) (weight_of u))

-- a tree is typed, and the weight is its own
pub record IsWeighed (u : CUnit) (weight : ℕ) : Type 0 where
  pub typed : IsTyped u
  pub weighed : weight ≡ weight_of u
