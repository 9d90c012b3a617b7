-- The code of a digit, and what stands after it.
use Rattle.std.proofs.Common.{◌≡◌, ℕ, suc, ◌+◌, ◌^◌, List, [], ◌∷◌, ◌++◌, refl, sym, ap, ◌∙◌, arith}
use Rattle.eir_core.specs.declared.ops.Reg.{Reg}
use Rattle.eir_core.specs.declared.ops.Reg.TheVariants.{A, B}
use Rattle.eir_core.specs.declared.ops.Operand.TheVariants.{Reg as register}
use Rattle.eir_core.specs.declared.ops.Cond.TheVariants.{Lt}
use Rattle.eir_core.specs.declared.ops.Op.TheVariants.{Mov, Add, Sub, Putc}
use Rattle.c_routines.specs.declared.item.Item.{Item}
use Rattle.c_routines.specs.declared.item.Item.TheVariants.{Does, Label, Jump, JumpIf}
use Rattle.c_routines.specs.declared.radix.Radix.{Radix}
use Rattle.c_routines.specs.declared.radix.Radix.TheVariants.{Ten, Sixteen}
use Rattle.c_routines.specs.Items.{constant}
use Rattle.c_routines.specs.Numeral.{radix_number, begins, again, known, writes_it, lettered, digit, places}

pub lettered_on : (radix : Radix) (small : ℕ) (r : Reg) (rest : List Item) → lettered radix small r [] ++ rest ≡ lettered radix small r rest
lettered_on Ten small r rest = refl
lettered_on Sixteen small r rest = refl

lettered_after : (radix : Radix) (small : ℕ) (r : Reg) (xs rest : List Item) → lettered radix small r xs ++ rest ≡ lettered radix small r (xs ++ rest)
lettered_after Ten small r xs rest = refl
lettered_after Sixteen small r xs rest = refl

pub digit_on : (radix : Radix) (base k q : ℕ) (rest : List Item) → digit radix base k q rest ≡ digit radix base k q [] ++ rest
digit_on radix base k q rest =
    ap (λ z. Does (Mov B (constant 48)) ∷ Label (again radix base k) ∷ JumpIf Lt (known radix base k) A (constant q) ∷ Does (Sub A (constant q)) ∷ Does (Add B (constant 1)) ∷ Jump (again radix base k) ∷ Label (known radix base k) ∷ z)
    (sym (lettered_after radix (writes_it radix base k) B (Does (Putc (register B)) ∷ []) rest))

-- the digits from a place above the lowest on
pub places_more : (radix : Radix) (base j : ℕ) → places radix base (suc j) ≡ (Label (begins radix base (j + 1)) ∷ digit radix base (j + 1) (radix_number radix ^ (j + 1)) []) ++ places radix base j
unfolding places
places_more radix base j =
    let next : suc j ≡ j + 1 = omega arith in
    ap (λ z. Label (begins radix base (suc j)) ∷ z) (digit_on radix base (suc j) (radix_number radix ^ suc j) (places radix base j))
    ∙ ap (λ z. (Label (begins radix base z) ∷ digit radix base z (radix_number radix ^ z) []) ++ places radix base j) next
