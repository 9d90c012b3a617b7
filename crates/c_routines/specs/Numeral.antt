-- A number is written: its length is found, and then a digit is counted at each place.
use Rattle.std.specs.Prelude.{ℕ, zero, suc, ◌+◌, ◌-◌, ◌*◌, ◌^◌, List, [], ◌∷◌}
use Rattle.eir_core.specs.declared.ops.Reg.{Reg}
use Rattle.eir_core.specs.declared.ops.Reg.TheVariants.{A, B, SP}
use Rattle.eir_core.specs.declared.ops.Operand.{Operand}
use Rattle.eir_core.specs.declared.ops.Operand.TheVariants.{Reg as register}
use Rattle.eir_core.specs.declared.ops.Cond.TheVariants.{Lt}
use Rattle.eir_core.specs.declared.ops.Op.TheVariants.{Mov, Add, Sub, Putc, Jump as Go}
use Rattle.c_routines.specs.declared.item.Item.{Item}
use Rattle.c_routines.specs.declared.item.Item.TheVariants.{Does, Label, Jump, JumpIf}
use Rattle.c_routines.specs.declared.radix.Radix.{Radix}
use Rattle.c_routines.specs.declared.radix.Radix.TheVariants.{Ten, Sixteen}
use Rattle.c_routines.specs.Items.{constant, label_of}

abbrev pub radix_number : Radix → ℕ
radix_number Ten = 10
radix_number Sixteen = 16

-- the highest place of a word, where the lowest is 0
abbrev pub highest : Radix → ℕ
highest Ten = 7
highest Sixteen = 5

-- the labels of a place: where it begins, where its digit is counted, and where the digit is known and is written
abbrev pub begins : Radix → (base k : ℕ) → ℕ
begins radix base k = label_of base (4 * (highest radix - k))

abbrev pub again : Radix → (base k : ℕ) → ℕ
again radix base k = label_of base (4 * (highest radix - k) + 1)

abbrev pub known : Radix → (base k : ℕ) → ℕ
known radix base k = label_of base (4 * (highest radix - k) + 2)

abbrev pub writes_it : Radix → (base k : ℕ) → ℕ
writes_it radix base k = label_of base (4 * (highest radix - k) + 3)

-- from ten on a digit is a letter
abbrev pub lettered : Radix → ℕ → Reg → List Item → List Item
lettered Ten small r rest = rest
lettered Sixteen small r rest = JumpIf Lt small r (constant 58) ∷ Does (Add r (constant 39)) ∷ Label small ∷ rest

-- a digit is counted up from the code of 0, as long as what it counts can be taken away
abbrev pub counted : (more done : ℕ) → Operand → List Item → List Item
counted more done q rest =
    Does (Mov B (constant 48))
    ∷ Label more
    ∷ JumpIf Lt done A q
    ∷ Does (Sub A q)
    ∷ Does (Add B (constant 1))
    ∷ Jump more
    ∷ Label done
    ∷ rest

-- the digit at a place that counts q is counted, and written
abbrev pub digit : Radix → (base k q : ℕ) → List Item → List Item
digit radix base k q rest = counted (again radix base k) (known radix base k) (constant q) (lettered radix (writes_it radix base k) B (Does (Putc (register B)) ∷ rest))

-- the last digit is written from A
abbrev pub last : Radix → ℕ → List Item
last radix base =
    Label (begins radix base 0)
    ∷ Does (Add A (constant 48))
    ∷ lettered radix (writes_it radix base 0) A (Does (Putc (register A)) ∷ Does (Go (register SP)) ∷ [])

-- the digits from a place on
unfoldable pub places : Radix → (base k : ℕ) → List Item
places radix base zero = last radix base
places radix base (suc k) = Label (begins radix base (suc k)) ∷ digit radix base (suc k) (radix_number radix ^ suc k) (places radix base k)

-- nothing is left above a place
abbrev pub find : Radix → (base k : ℕ) → List Item → List Item
find radix base k rest = JumpIf Lt (begins radix base k) A (constant (radix_number radix ^ suc k)) ∷ rest

-- the lowest place at which nothing is left above
unfoldable pub finds : Radix → (base above k : ℕ) → List Item
finds radix base zero k = places radix base k
finds radix base (suc above) k = find radix base k (finds radix base above (suc k))

abbrev pub numeral : Radix → ℕ → List Item
numeral radix base = finds radix base (highest radix) 0
