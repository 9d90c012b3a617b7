-- What the routines make of their operands.
use Rattle.std.specs.Prelude.{◌≡◌, ℕ, ◌+◌, ◌*◌, ◌/◌, ◌%◌, ◌^◌, ◌<◌, ◌≤◌, false, List, []}
use Rattle.std.specs.Fmt.{digits, signed_decimal}
use Rattle.std.specs.Int.Bits.{bit_and, bit_or, bit_xor}
use Rattle.word24.specs.Word.{signed_of}
use Rattle.eir_core.specs.Eir.{Eir}
use Rattle.c_place.specs.Place.{Place, front}
use Rattle.c_routines.specs.declared.radix.Radix.{Radix}
use Rattle.c_routines.specs.declared.radix.Radix.TheVariants.{Ten, Sixteen}
use Rattle.c_routines.specs.Items.{Stands}
use Rattle.c_routines.specs.Lands.{Serves, IsRoutine}
use Rattle.c_routines.specs.Divide.{divide}
use Rattle.c_routines.specs.SignedDivide.{signed_divide, IsSignedQuotient}
use Rattle.c_routines.specs.Product.{product}
use Rattle.c_routines.specs.Both.{both}
use Rattle.c_routines.specs.Some.{some, one}
use Rattle.c_routines.specs.Left.{left}
use Rattle.c_routines.specs.Right.{right, HasTwoBlocks}
use Rattle.c_routines.specs.SignedRight.{signed_right, signed_shift}
use Rattle.c_routines.specs.Numeral.{radix_number, numeral}
use Rattle.c_routines.specs.Decimal.{decimal}
use Rattle.c_routines.specs.Text.{text, TextLands as LandsText}

abbrev pub Any : ℕ → ℕ → Type 0
Any x y = Unit {0}

abbrev pub nothing : ℕ → ℕ → List ℕ
nothing x y = []

-- the remainder in A and the quotient in C
abbrev pub IsQuotient : ℕ → ℕ → ℕ → ℕ → Type 0
IsQuotient x y a c = (a ≡ x % y) × (c ≡ x / y)

-- a result in A
abbrev pub Gives : (ℕ → ℕ → ℕ) → ℕ → ℕ → ℕ → ℕ → Type 0
Gives f x y a c = a ≡ f x y

-- of any word and any other than 0
abbrev pub DivideLands : Type 0
DivideLands = IsRoutine divide 24 (λ x y. 0 < y) nothing IsQuotient 192

-- of any two words, modulo 2^24
abbrev pub ProductLands : Type 0
ProductLands = IsRoutine (λ base first. product base) 0 Any nothing (Gives (λ x y. x * y % 2 ^ 24)) 104

-- where the block of a label divides, so does this code with signs
abbrev pub SignedDivideLands : Type 0
SignedDivideLands =
    (p : Eir) (at : ℕ → ℕ) (entry base first : ℕ) (s : Place) → first + 26 ≤ 2 ^ 24 → at entry < 2 ^ 24 → Serves p first 24 (front (at entry)) (λ x y. 0 < y) nothing IsQuotient 192 → Stands p at s (signed_divide entry base first)
    → Serves p first 26 s (λ x y. 0 < y) nothing IsSignedQuotient 208

-- of any two words
abbrev pub BothLands : Type 0
BothLands = IsRoutine (λ base first. both base) 0 Any nothing (Gives bit_and) 151

-- of a word and a count, modulo 2^24
abbrev pub LeftLands : Type 0
LeftLands = IsRoutine (λ base first. left base) 0 (λ x y. y ≤ 24) nothing (Gives (λ x y. x * 2 ^ y % 2 ^ 24)) 28

-- the block of a label gives the bits that both have
abbrev pub GivesBoth : Eir → ℕ → ℕ → Type 0
GivesBoth p first block = Serves p first 0 (front block) Any nothing (Gives bit_and) 151

-- where the block of a label gives the bits that both have, this code gives those that at least one has, and that only one has
pub record SomeLands : Type 0 where
  pub some : (p : Eir) (at : ℕ → ℕ) (entry base first : ℕ) (s : Place) → first + 26 ≤ 2 ^ 24 → at entry < 2 ^ 24 → GivesBoth p first (at entry) → Stands p at s (some entry base first) → Serves p first 26 s Any nothing (Gives bit_or) 162
  pub one : (p : Eir) (at : ℕ → ℕ) (entry base first : ℕ) (s : Place) → first + 26 ≤ 2 ^ 24 → at entry < 2 ^ 24 → GivesBoth p first (at entry) → Stands p at s (one entry base first) → Serves p first 26 s Any nothing (Gives bit_xor) 163

-- of a word and a count, where the labels are two blocks apart
abbrev pub RightLands : Type 0
RightLands = (p : Eir) (at : ℕ → ℕ) (base first : ℕ) (s : Place) → HasTwoBlocks at base → Stands p at s (right base) → Serves p first 0 s (λ x y. y ≤ 23) nothing (Gives (λ x y. x / 2 ^ y)) 101

-- where the block of a label shifts without sign, this code does with it
abbrev pub SignedRightLands : Type 0
SignedRightLands =
    (p : Eir) (at : ℕ → ℕ) (entry base first : ℕ) (s : Place) → first + 26 ≤ 2 ^ 24 → at entry < 2 ^ 24 → Serves p first 0 (front (at entry)) (λ x y. y ≤ 23) nothing (Gives (λ x y. x / 2 ^ y)) 101 → Stands p at s (signed_right entry base first)
    → Serves p first 26 s (λ x y. y ≤ 23) nothing (Gives signed_shift) 113

-- of any word its digits are written
abbrev pub most_of : Radix → ℕ
most_of Ten = 283
most_of Sixteen = 335

abbrev pub NumeralLands : Type 0
NumeralLands = (radix : Radix) → IsRoutine (λ base first. numeral radix base) 0 Any (λ x y. digits (radix_number radix) false x) (λ x y a c. Unit {0}) (most_of radix)

-- where the block of a label writes a number without sign, this code writes it with its sign
abbrev pub DecimalLands : Type 0
DecimalLands =
    (p : Eir) (at : ℕ → ℕ) (entry base first : ℕ) (s : Place) → at entry < 2 ^ 24 → Serves p first 0 (front (at entry)) Any (λ x y. digits 10 false x) (λ x y a c. Unit {0}) 283 → Stands p at s (decimal entry base)
    → Serves p first 0 s Any (λ x y. signed_decimal (signed_of x)) (λ x y a c. Unit {0}) 289

-- a text is written
abbrev pub TextLands : Type 0
TextLands = (p : Eir) (at : ℕ → ℕ) (base : ℕ) (s : Place) → Stands p at s (text base) → LandsText p s
