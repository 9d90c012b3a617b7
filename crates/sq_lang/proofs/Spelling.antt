-- Texts that spell cells, made of decimal numbers.
use Rattle.std.proofs.Common.{◌≡◌, ℕ, suc, ◌≤◌, true, false, List, [], ◌∷◌, ◌++◌, ℤ, pos, negsuc, FitsSigned, w64, refl, sym, ap, arith, append_assoc}
use Rattle.std.specs.List.{AllByRecursion, flat_map}
use Rattle.std.specs.Fmt.{decimal, signed_decimal}
use Rattle.std.specs.Str.Parse.{AllDigits, IsNumeral, digits_value, starts_with_minus}
use Rattle.std.proofs.lemmas.Bool.Decides.{nat_tests}
use Rattle.std.proofs.lemmas.Fmt.{decimal_is_IsNumeral}
use Rattle.std.proofs.lemmas.Str.Parse.{digit_from_value}
use Rattle.sq_lang.specs.Text.{is_separator, IsPiece, IsParted, Begins, SpellsCell, sq_spells}

no_separator : (c : ℕ) → 48 ≤ c → is_separator c ≡ false
no_separator c low = grind (arith, nat_tests)

pub unbroken : (ds : List ℕ) → AllDigits 10 ds → AllByRecursion (λ byte. is_separator byte ≡ false) ds
unbroken [] p = tt
unbroken (c ∷ ds) p = (no_separator c (digit_from_value c p.0).0, unbroken ds p.1)

no_minus : (ds : List ℕ) → IsNumeral 10 ds → starts_with_minus ds ≡ false
no_minus [] p = absurd (omega (arith, p.0))
no_minus (c ∷ ds) p =
    let low : 48 ≤ c = (digit_from_value c p.1.0).0 in
    grind (arith, nat_tests)

plain : (ds : List ℕ) (n : ℕ) → IsNumeral 10 ds → digits_value 10 ds ≡ n → FitsSigned w64 (pos n) → SpellsCell ds (pos n)
plain ds n p v fits =
    let e = no_minus ds p in
    record { number = rw e p; value = rw (e, v) refl; fits = fits }

below_zero : (ds : List ℕ) (n : ℕ) → IsNumeral 10 ds → digits_value 10 ds ≡ suc n → FitsSigned w64 (negsuc n) → SpellsCell (45 ∷ ds) (negsuc n)
below_zero ds n p v fits = record { number = p; value = rw v refl; fits = fits }

-- the decimal text of a number spells it
pub SpellsCell-signed_decimal : (z : ℤ) → FitsSigned w64 z → SpellsCell (signed_decimal z) z
SpellsCell-signed_decimal (pos n) fits =
    let d = decimal_is_IsNumeral n (omega (arith, fits.sfits)) in
    plain (decimal n) n d.0 d.1 fits
SpellsCell-signed_decimal (negsuc n) fits =
    let d = decimal_is_IsNumeral (suc n) (omega (arith, fits.sfits)) in
    below_zero (decimal (suc n)) n d.0 d.1 fits

pub IsPiece-signed_decimal : (z : ℤ) → FitsSigned w64 z → IsPiece (signed_decimal z)
IsPiece-signed_decimal (pos n) fits =
    let d = decimal_is_IsNumeral n (omega (arith, fits.sfits)) in
    (d.0.0, unbroken (decimal n) d.0.1)
IsPiece-signed_decimal (negsuc n) fits =
    let d = decimal_is_IsNumeral (suc n) (omega (arith, fits.sfits)) in
    (omega arith, (refl, unbroken (decimal (suc n)) d.0.1))

pub sq_spells-nothing : sq_spells [] []
sq_spells-nothing = ([], refl, tt)

-- a number in front
pub sq_spells-number : (z : ℤ) (rest : List ℕ) (zs : List ℤ) → FitsSigned w64 z → IsParted rest → sq_spells rest zs → sq_spells (signed_decimal z ++ rest) (z ∷ zs)
sq_spells-number z rest zs fits parted p =
    let begins : Begins (signed_decimal z ++ rest) [] (signed_decimal z) rest = record { whole = refl; separators = tt; unbroken = IsPiece-signed_decimal z fits; parted = parted } in
    (p.0, ([], signed_decimal z, rest, begins, SpellsCell-signed_decimal z fits, p.1), p.2)

-- a separator in front
pub sq_spells-separator : (byte : ℕ) (text : List ℕ) (zs : List ℤ) → is_separator byte ≡ true → sq_spells text zs → sq_spells (byte ∷ text) zs
sq_spells-separator byte text [] e p = (byte ∷ text, refl, (e, rw (sym p.1) at p.2))
sq_spells-separator byte text (z ∷ zs) e p =
    let q = p.1 in
    let begins : Begins (byte ∷ text) (byte ∷ q.0) q.1 q.2 = record { whole = ap (λ (v : List ℕ). byte ∷ v) q.3.whole; separators = (e, q.3.separators); unbroken = q.3.unbroken; parted = q.3.parted } in
    (p.0, (byte ∷ q.0, q.1, q.2, begins, q.4, q.5), p.2)

-- numbers, each with a separator behind it
pub sq_spells-each : (byte : ℕ) (zs : List ℤ) → is_separator byte ≡ true → AllByRecursion (λ z. FitsSigned w64 z) zs → sq_spells (flat_map (λ z. signed_decimal z ++ byte ∷ []) zs) zs
sq_spells-each byte [] e all = sq_spells-nothing
sq_spells-each byte (z ∷ zs) e all =
    let more = flat_map (λ (x : ℤ). signed_decimal x ++ byte ∷ []) zs in
    rw (append_assoc (signed_decimal z) (byte ∷ []) more) (sq_spells-number z (byte ∷ more) zs all.0 e (sq_spells-separator byte more zs e (sq_spells-each byte zs e all.1)))
