use Rattle.std.proofs.Common.{◌≡◌, ◌<◌, ◌-◌, ◌%◌, ℕ, zero, suc, true, false, w64, arith, ap, sym, ◌∙◌}
use Rattle.std.specs.Prelude.{ℤ, pos, negsuc, ◌-ℤ◌, unsigned_abs, int_rem}
use Rattle.std.specs.Int.{int_rem_euclid}
use Rattle.std.proofs.lemmas.Bool.{false≢true, true≢false}
use Rattle.std.proofs.lemmas.Bool.Decides.{nat_tests}
use Rattle.std.proofs.lemmas.Int.{to_z-of_z, to_z_pos, rem_is}
use mir.Val.{to_z, of_z}
use lib.Signed.{lt_z, mag, mag_rem}
use Rattle.mach_core.specs.Integer.{is_in_range, is_zero, floor_remainder}
use Rattle.floor_division.proofs.division.remainder.Goals as goal

in_range : (z : ℤ) → mag z < 9223372036854775808 → is_in_range z ≡ true
in_range (pos n) h = grind (arith, nat_tests)
in_range (negsuc n) h = grind (arith, nat_tests)

-- by a positive number
euclid : (x y : ℤ) → lt_z (pos 0) y ≡ true → int_rem_euclid x y ≡ floor_remainder x y
euclid x (pos zero) t = absurd (false≢true t)
euclid (pos a) (pos (suc b)) t = grind arith
euclid (negsuc a) (pos (suc b)) t = grind arith
euclid x (negsuc b) t = absurd (false≢true t)

positive : (n : ℕ) → lt_z (pos 0) (pos (suc n)) ≡ true
positive n = grind (arith, nat_tests)

-- of none or a negative number, by a negative one
above : (x y : ℤ) → lt_z (pos 0) x ≡ false → lt_z (pos 0) y ≡ false → is_zero y ≡ false → int_rem x y ≡ floor_remainder x y
above (pos zero) (negsuc b) t u z = grind arith
above (negsuc a) (negsuc b) t u z = grind arith
above x (pos zero) t u z = absurd (true≢false z)
above x (pos (suc b)) t u z = absurd (true≢false (sym (positive b) ∙ u))
above (pos (suc a)) y t u z = absurd (true≢false (sym (positive a) ∙ t))

-- of a positive number, by a negative one
below : (x y : ℤ) (m : ℕ) → lt_z (pos 0) x ≡ true → lt_z (pos 0) y ≡ false → is_zero y ≡ false → m ≡ unsigned_abs y - 1 - (unsigned_abs x - 1) % unsigned_abs y → pos 0 -ℤ pos m ≡ floor_remainder x y
below (pos zero) y m t u z e = absurd (false≢true t)
below (negsuc a) y m t u z e = absurd (false≢true t)
below (pos (suc a)) (pos zero) m t u z e = absurd (true≢false z)
below (pos (suc a)) (pos (suc b)) m t u z e = absurd (true≢false (sym (positive b) ∙ u))
below (pos (suc a)) (negsuc b) m t u z e = grind (arith, e)

negated : (m : ℕ) → m < 9223372036854775808 → mag (pos 0 -ℤ pos m) < 9223372036854775808
negated m h = grind arith

rem_range : (x y : ℤ) → mag x < 9223372036854775808 → mag (int_rem x y) < 9223372036854775808
rem_range x y f = omega (arith, mag_rem x y)

pub returns-then-y-gt0 : goal.returns-then-y-gt0
returns-then-y-gt0 c =
    let x = to_z-of_z w64 c.args.x c.ranges.x in
    let y = to_z-of_z w64 c.args.y c.ranges.y in
    let r = to_z-of_z w64 c.rem_euclid.result (record { sfits = c.rem_euclid.type_inv }) in
    let t : lt_z (pos 0) c.args.y ≡ true = sym (ap (λ z. lt_z (pos 0) z) y) ∙ c.if-y-gt0.true in
    (r ∙ (c.rem_euclid.ensures.value ∙ ((λ i. int_rem_euclid (x i) (y i)) ∙ euclid c.args.x c.args.y t)), ap is_in_range r ∙ in_range c.rem_euclid.result c.rem_euclid.type_inv)

pub returns-else-y-eqminus1 : goal.returns-else-y-eqminus1
returns-else-y-eqminus1 c =
    let x = c.args.x in
    let y = c.args.y in
    let r = rem_is w64 x y c.ranges.x c.ranges.y in
    let t : lt_z (pos 0) x ≡ false = sym (ap (λ z. lt_z (pos 0) z) (to_z-of_z w64 x c.ranges.x)) ∙ c.if-x-gt0.false in
    let u : lt_z (pos 0) y ≡ false = sym (ap (λ z. lt_z (pos 0) z) (to_z-of_z w64 y c.ranges.y)) ∙ c.if-y-gt0.false in
    (r ∙ above x y t u c.requires, ap is_in_range r ∙ in_range (int_rem x y) (rem_range x y c.ranges.x.sfits))

pub returns-then-x-gt0 : goal.returns-then-x-gt0
returns-then-x-gt0 c =
    let x = c.args.x in
    let y = c.args.y in
    let t : lt_z (pos 0) x ≡ true = sym (ap (λ z. lt_z (pos 0) z) (to_z-of_z w64 x c.ranges.x)) ∙ c.if-x-gt0.true in
    let u : lt_z (pos 0) y ≡ false = sym (ap (λ z. lt_z (pos 0) z) (to_z-of_z w64 y c.ranges.y)) ∙ c.if-y-gt0.false in
    let a : c.unsigned_abs.result ≡ unsigned_abs x = c.unsigned_abs.ensures.value ∙ ap unsigned_abs (to_z-of_z w64 x c.ranges.x) in
    let b : c.unsigned_abs-then-x-gt0.result ≡ unsigned_abs y = c.unsigned_abs-then-x-gt0.ensures.value ∙ ap unsigned_abs (to_z-of_z w64 y c.ranges.y) in
    let d : c.unsigned_abs-then-x-gt0-2.result ≡ unsigned_abs y = c.unsigned_abs-then-x-gt0-2.ensures.value ∙ ap unsigned_abs (to_z-of_z w64 y c.ranges.y) in
    let m : ℕ = c.unsigned_abs-then-x-gt0-2.result - 1 - (c.unsigned_abs.result - 1) % c.unsigned_abs-then-x-gt0.result in
    let small : m < 9223372036854775808 = omega (arith, c.unsigned_abs-then-x-gt0-2.ensures.bound) in
    let fits = negated m small in
    let r = ap (λ z. to_z w64 (of_z w64 (pos 0 -ℤ z))) (to_z_pos w64 m small) ∙ to_z-of_z w64 (pos 0 -ℤ pos m) (record { sfits = fits }) in
    (r ∙ below x y m t u c.requires (λ i. d i - 1 - (a i - 1) % b i), ap is_in_range r ∙ in_range (pos 0 -ℤ pos m) fits)
