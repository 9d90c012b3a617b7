-- The signed quotient and remainder: signs are taken off, and put back after the routine that divides.
use Rattle.std.specs.Prelude.{◌≡◌, ℕ, ◌/◌, ◌%◌, ◌^◌, Bool, true, false, not, List, [], ◌∷◌, ◌++◌}
use Rattle.word24.specs.Word.{difference_word, is_high}
use Rattle.eir_core.specs.declared.ops.Reg.TheVariants.{A, B, C}
use Rattle.eir_core.specs.declared.ops.Cond.TheVariants.{Ge}
use Rattle.c_routines.specs.declared.item.Item.{Item}
use Rattle.c_routines.specs.declared.item.Item.TheVariants.{Label, Jump, JumpIf}
use Rattle.c_routines.specs.Items.{constant, label_of, does}
use Rattle.c_routines.specs.Using.{negate, using}

-- two operands without sign are divided as they are; at `entry` stands the routine that divides
abbrev pub signs_tested : (entry base : ℕ) → List Item → List Item
signs_tested entry base rest =
    JumpIf Ge (label_of base 2) A (constant (2 ^ 23))
    ∷ JumpIf Ge (label_of base 0) B (constant (2 ^ 23))
    ∷ Jump entry
    ∷ Label (label_of base 0)
    ∷ rest

-- no operand is negative, or the divisor alone is
abbrev pub positive : (entry base first : ℕ) → List Item → List Item
positive entry base first rest = signs_tested entry base (using entry (label_of base 1) first (negate B C) (negate C B) rest)

-- the dividend alone is negative
abbrev pub negative : (entry base first : ℕ) → List Item → List Item
negative entry base first rest =
    Label (label_of base 2)
    ∷ does (negate A C)
    (JumpIf Ge (label_of base 4) B (constant (2 ^ 23))
    ∷ using entry (label_of base 3) first [] (negate C B ++ negate A B) rest)

-- both are
abbrev pub both_negative : (entry base first : ℕ) → List Item → List Item
both_negative entry base first rest = Label (label_of base 4) ∷ using entry (label_of base 5) first (negate B C) (negate A B) rest

abbrev pub signed_divide : (entry base first : ℕ) → List Item
signed_divide entry base first = positive entry base first (negative entry base first (both_negative entry base first []))

-- with the other sign, or not
abbrev pub with_sign : Bool → ℕ → ℕ
with_sign true x = difference_word 0 x
with_sign false x = x

-- the number without its sign
abbrev pub size_of : ℕ → ℕ
size_of x = with_sign (is_high x) x

abbrev pub differ : Bool → Bool → Bool
differ true t = not t
differ false t = t

-- the quotient of the sizes is negative where the signs differ, and their remainder where the dividend is
abbrev pub IsSignedQuotient : ℕ → ℕ → ℕ → ℕ → Type 0
IsSignedQuotient x y a c = (a ≡ with_sign (is_high x) (size_of x % size_of y)) × (c ≡ with_sign (differ (is_high x) (is_high y)) (size_of x / size_of y))
