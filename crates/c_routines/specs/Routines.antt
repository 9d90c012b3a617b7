-- The routines that a program uses, one after the other.
use Rattle.std.specs.Prelude.{◌≡◌, ℕ, ◌+◌, ◌*◌, ◌/◌, ◌%◌, ◌^◌, ◌<◌, ◌≤◌, Bool, true, false, ◌||◌, List, [], ◌∷◌, ◌++◌, if◌then◌else◌}
use Rattle.std.specs.Fmt.{digits, signed_decimal}
use Rattle.std.specs.Int.Bits.{bit_and, bit_or, bit_xor}
use Rattle.word24.specs.Word.{signed_of}
use Rattle.eir_core.specs.Eir.{Eir}
use Rattle.c_place.specs.Place.{Place, front}
use Rattle.c_routines.specs.declared.item.Item.{Item}
use Rattle.c_routines.specs.declared.item.Item.TheVariants.{Label}
use Rattle.c_routines.specs.declared.radix.Radix.TheVariants.{Ten, Sixteen}
use Rattle.c_routines.specs.declared.routine.Routine.{Routine}
use Rattle.c_routines.specs.declared.routine.Routine.TheVariants.{Product, Divide, SignedDivide, Both, Some, One, Left, Right, SignedRight, Unsigned, Decimal, Hexadecimal, Text}
use Rattle.c_routines.specs.declared.routine.Used.{Used}
use Rattle.c_routines.specs.Items.{label_of, Stands}
use Rattle.c_routines.specs.Cuts.{Rises, Numbered}
use Rattle.c_routines.specs.Lands.{Serves}
use Rattle.c_routines.specs.Laws.{Any, nothing, IsQuotient, Gives, most_of}
use Rattle.c_routines.specs.Divide.{divide}
use Rattle.c_routines.specs.SignedDivide.{signed_divide, IsSignedQuotient}
use Rattle.c_routines.specs.Product.{product}
use Rattle.c_routines.specs.Both.{both}
use Rattle.c_routines.specs.Some.{some, one}
use Rattle.c_routines.specs.Left.{left}
use Rattle.c_routines.specs.Right.{right}
use Rattle.c_routines.specs.SignedRight.{signed_right, signed_shift}
use Rattle.c_routines.specs.Numeral.{numeral}
use Rattle.c_routines.specs.Decimal.{decimal}
use Rattle.c_routines.specs.Text.{text, TextLands}

-- all of them, in their order
abbrev pub all : List Routine
all = Product ∷ Divide ∷ SignedDivide ∷ Both ∷ Some ∷ One ∷ Left ∷ Right ∷ SignedRight ∷ Unsigned ∷ Decimal ∷ Hexadecimal ∷ Text ∷ []

abbrev pub number : Routine → ℕ
number Product = 0
number Divide = 1
number SignedDivide = 2
number Both = 3
number Some = 4
number One = 5
number Left = 6
number Right = 7
number SignedRight = 8
number Unsigned = 9
number Decimal = 10
number Hexadecimal = 11
number Text = 12

-- a routine is used, or one that uses it
abbrev pub needs : Used → Routine → Bool
needs u Product = u.product
needs u Divide = u.divide || u.signed_divide
needs u SignedDivide = u.signed_divide
needs u Both = u.both || u.some || u.one
needs u Some = u.some
needs u One = u.one
needs u Left = u.left
needs u Right = u.right || u.signed_right
needs u SignedRight = u.signed_right
needs u Unsigned = u.unsigned || u.decimal
needs u Decimal = u.decimal
needs u Hexadecimal = u.hexadecimal
needs u Text = u.text

-- the label where a routine begins, where the labels of all begin with `base`: each has 64
abbrev pub entry : (base : ℕ) → Routine → ℕ
entry base r = label_of base (64 * number r)

-- and its own labels begin after that one
abbrev pub own : (base : ℕ) → Routine → ℕ
own base r = label_of (entry base r) 1

abbrev pub code_of : (base first : ℕ) → Routine → List Item
code_of base first Product = product (own base Product)
code_of base first Divide = divide (own base Divide) first
code_of base first SignedDivide = signed_divide (entry base Divide) (own base SignedDivide) first
code_of base first Both = both (own base Both)
code_of base first Some = some (entry base Both) (own base Some) first
code_of base first One = one (entry base Both) (own base One) first
code_of base first Left = left (own base Left)
code_of base first Right = right (own base Right)
code_of base first SignedRight = signed_right (entry base Right) (own base SignedRight) first
code_of base first Unsigned = numeral Ten (own base Unsigned)
code_of base first Decimal = decimal (entry base Unsigned) (own base Decimal)
code_of base first Hexadecimal = numeral Sixteen (own base Hexadecimal)
code_of base first Text = text (own base Text)

-- a routine, with the label of its entry, where it is needed
unfoldable pub routine_of : Used → (base first : ℕ) → Routine → List Item
routine_of u base first r = if needs u r then Label (entry base r) ∷ code_of base first r else []

abbrev pub each_of : List Routine → Used → (base first : ℕ) → List Item
each_of [] u base first = []
each_of (r ∷ rs) u base first = routine_of u base first r ++ each_of rs u base first

-- their labels begin with `base`, and their words with `first`
abbrev pub routines : Used → (base first : ℕ) → List Item
routines = each_of all

-- what each routine does at a place
abbrev pub ServesAs : Eir → (first : ℕ) → Place → Routine → Type 0
ServesAs p first s Product = Serves p first 0 s Any nothing (Gives (λ x y. x * y % 2 ^ 24)) 104
ServesAs p first s Divide = Serves p first 24 s (λ x y. 0 < y) nothing IsQuotient 192
ServesAs p first s SignedDivide = Serves p first 26 s (λ x y. 0 < y) nothing IsSignedQuotient 208
ServesAs p first s Both = Serves p first 0 s Any nothing (Gives bit_and) 151
ServesAs p first s Some = Serves p first 26 s Any nothing (Gives bit_or) 162
ServesAs p first s One = Serves p first 26 s Any nothing (Gives bit_xor) 163
ServesAs p first s Left = Serves p first 0 s (λ x y. y ≤ 24) nothing (Gives (λ x y. x * 2 ^ y % 2 ^ 24)) 28
ServesAs p first s Right = Serves p first 0 s (λ x y. y ≤ 23) nothing (Gives (λ x y. x / 2 ^ y)) 101
ServesAs p first s SignedRight = Serves p first 26 s (λ x y. y ≤ 23) nothing (Gives signed_shift) 113
ServesAs p first s Unsigned = Serves p first 0 s Any (λ x y. digits 10 false x) (λ x y a c. Unit {0}) (most_of Ten)
ServesAs p first s Decimal = Serves p first 0 s Any (λ x y. signed_decimal (signed_of x)) (λ x y a c. Unit {0}) 289
ServesAs p first s Hexadecimal = Serves p first 0 s Any (λ x y. digits 16 false x) (λ x y a c. Unit {0}) (most_of Sixteen)
ServesAs p first s Text = TextLands p s

-- where the routines stand, and their labels are the numbers of their blocks, each that is needed serves at the block of its entry
abbrev pub RoutinesServe : Type 0
RoutinesServe =
    (p : Eir) (at : ℕ → ℕ) (used : Used) (base first k : ℕ) (within : Bool) (s : Place) → first + 26 ≤ 2 ^ 24 → Numbered at k within (routines used base first) → Stands p at s (routines used base first)
    → (r : Routine) → needs used r ≡ true → (at (entry base r) < 2 ^ 24) × ServesAs p first (front (at (entry base r))) r

-- their labels rise, from the first one on
abbrev pub RoutinesRise : Type 0
RoutinesRise = (used : Used) (base first : ℕ) → base + 832 ≤ 2 ^ 32 → Rises base (routines used base first)
