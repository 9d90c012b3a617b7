-- The text of a number, read byte by byte, is stored as its number.
use Rattle.std.proofs.Common.{◌≡◌, ℕ, zero, suc, ◌+◌, ◌-◌, ◌*◌, ◌<◌, ◌≤◌, Bool, true, false, List, [], ◌∷◌, ◌++◌, length, Option, Some, None, ℤ, nat_lt, refl, sym, ap, ◌∙◌, append-nil, arith}
use Rattle.std.specs.Char.{digit_value}
use Rattle.std.specs.List.{AllByRecursion}
use Rattle.std.specs.Str.Parse.{AllDigits, digits_value, digits_value_after}
use Rattle.std.proofs.lemmas.Bool.Decides.{nat_tests}
use Rattle.std.proofs.lemmas.Str.{digit_value_digit}
use Rattle.std.proofs.lemmas.Str.Parse.{digit_from_value}
use Rattle.mach_core.specs.declared.machine.Status.TheVariants.{Going}
use Rattle.mach_core.specs.Rule.{Moment, input_at, if_going, stepped, applied, run_from}
use Rattle.mach_core.proofs.Runs.{run_from-add}
use Rattle.ws_lang.specs.Instruction.{Instruction}
use Rattle.mach_core.specs.Integer.{is_in_range}
use Rattle.ws_lang.specs.Spelling.{signed}
use Rattle.ws_lang.specs.Laws.{AreNext, sign_bytes, is_minus, IsOther, moment}
use Rattle.ws_lang.specs.Step.{Config, Seen, Blanks, Digits, is_blank, is_digit, reading_on, closed, after_blanks, after_digits, standing_of, ws_rule}

next_split : (input : List ℕ) (t : ℕ) (xs ys : List ℕ) → AreNext input t (xs ++ ys) → AreNext input t xs × AreNext input (t + length xs) ys
next_split input t [] ys h = (tt, (let e : t + 0 ≡ t = omega arith in rw e h))
next_split input t (x ∷ xs) ys h =
    let more = next_split input (t + 1) xs ys h.1 in
    let e : t + suc (length xs) ≡ t + 1 + length xs = omega arith in
    ((h.0, more.0), rw e more.1)

digit_is : (b : ℕ) → digit_value b < 10 → is_digit b ≡ true
digit_is b small = let k = digit_from_value b small in grind (arith, nat_tests, k.0, k.1)

digit_other : (b : ℕ) → digit_value b < 10 → IsOther b
digit_other b small =
    let k = digit_from_value b small in
    let low : 48 ≤ b = k.0 in
    record { blank = grind (arith, nat_tests); plus = grind (arith, nat_tests); minus = grind (arith, nat_tests) }

digit_adds : (n b : ℕ) → digit_value b < 10 → 10 * n + (b - 48) ≡ n * 10 + digit_value b
digit_adds n b small = omega (arith, digit_value_digit b (digit_from_value b small))

grows : (n : ℕ) (ds : List ℕ) → n ≤ digits_value_after 10 n ds
grows n [] = omega arith
grows n (d ∷ ds) = omega (arith, grows (n * 10 + digit_value d) ds)

smaller : (negative : Bool) (a b : ℕ) → a ≤ b → is_in_range (signed negative b) ≡ true → is_in_range (signed negative a) ≡ true
smaller false a b le e = grind (arith, nat_tests)
smaller true zero b le e = refl
smaller true (suc a) zero le e = absurd (omega arith)
smaller true (suc a) (suc b) le e = grind (arith, nat_tests)

module _ (code : List Instruction) (input : List ℕ) (c : Config) (address : ℤ) (output : List ℕ) (going : c.status ≡ Going) (within : nat_lt c.place (length code) ≡ true) where
  one : (m : Moment Config) (n : ℕ) → run_from (ws_rule code) input m (suc n) ≡ run_from (ws_rule code) input (applied (ws_rule code) input m) n
  one m n =
      let e : suc n ≡ 1 + n = omega arith in
      ap (run_from (ws_rule code) input m) e ∙ run_from-add (ws_rule code) input m 1 n

  stands : (seen : Seen) → standing_of code (reading_on c address seen) ≡ Going
  stands seen = rw (going, within) refl

  step : (seen : Seen) (t : ℕ) → applied (ws_rule code) input (moment output (reading_on c address seen) t) ≡ stepped (ws_rule code) input (moment output (reading_on c address seen) t)
  step seen t = ap (λ s. if_going s (stepped (ws_rule code) input (moment output (reading_on c address seen) t)) (moment output (reading_on c address seen) t)) (stands seen)

  on_blanks : (t : ℕ) → applied (ws_rule code) input (moment output (reading_on c address Blanks) t) ≡ moment output (after_blanks (reading_on c address Blanks) address (input_at input t)) (t + 1)
  on_blanks t = step Blanks t ∙ ap (λ o. moment o (after_blanks (reading_on c address Blanks) address (input_at input t)) (t + 1)) (append-nil output)

  on_digits : (negative : Bool) (n t : ℕ)
      → applied (ws_rule code) input (moment output (reading_on c address (Digits negative n)) t) ≡ moment output (after_digits (reading_on c address (Digits negative n)) address negative n (input_at input t)) (t + 1)
  on_digits negative n t = step (Digits negative n) t ∙ ap (λ o. moment o (after_digits (reading_on c address (Digits negative n)) address negative n (input_at input t)) (t + 1)) (append-nil output)

  -- blanks are skipped
  blanks_read : (blanks : List ℕ) (t : ℕ) → AllByRecursion (λ b. is_blank b ≡ true) blanks → AreNext input t blanks
      → run_from (ws_rule code) input (moment output (reading_on c address Blanks) t) (length blanks) ≡ moment output (reading_on c address Blanks) (t + length blanks)
  blanks_read [] t all next = let e : t ≡ t + 0 = omega arith in ap (moment output (reading_on c address Blanks)) e
  blanks_read (b ∷ blanks) t all next =
      let e : t + 1 + length blanks ≡ t + suc (length blanks) = omega arith in
      let skip : applied (ws_rule code) input (moment output (reading_on c address Blanks) t) ≡ moment output (reading_on c address Blanks) (t + 1) =
      on_blanks t ∙ rw (next.0, all.0) refl in
      one (moment output (reading_on c address Blanks) t) (length blanks)
      ∙ (ap (λ m. run_from (ws_rule code) input m (length blanks)) skip
      ∙ (blanks_read blanks (t + 1) all.1 next.1 ∙ ap (moment output (reading_on c address Blanks)) e))

  -- digits add up
  digits_read : (negative : Bool) (ds : List ℕ) (n t : ℕ) → AllDigits 10 ds → is_in_range (signed negative (digits_value_after 10 n ds)) ≡ true → AreNext input t ds
      → run_from (ws_rule code) input (moment output (reading_on c address (Digits negative n)) t) (length ds) ≡ moment output (reading_on c address (Digits negative (digits_value_after 10 n ds))) (t + length ds)
  digits_read negative [] n t all fits next = let e : t ≡ t + 0 = omega arith in ap (moment output (reading_on c address (Digits negative n))) e
  digits_read negative (d ∷ ds) n t all fits next =
      let m : ℕ = n * 10 + digit_value d in
      let e : t + 1 + length ds ≡ t + suc (length ds) = omega arith in
      let small : is_in_range (signed negative m) ≡ true = smaller negative m (digits_value_after 10 m ds) (grows m ds) fits in
      let digit : applied (ws_rule code) input (moment output (reading_on c address (Digits negative n)) t) ≡ moment output (reading_on c address (Digits negative m)) (t + 1) =
      on_digits negative n t ∙ rw (next.0, digit_is d all.0, digit_adds n d all.0, small) refl in
      one (moment output (reading_on c address (Digits negative n)) t) (length ds)
      ∙ (ap (λ x. run_from (ws_rule code) input x (length ds)) digit
      ∙ (digits_read negative ds m (t + 1) all.1 fits next.1 ∙ ap (moment output (reading_on c address (Digits negative (digits_value_after 10 m ds)))) e))

  -- behind digits, or a sign alone, another byte closes the number
  signed_read : (negative : Bool) (ds : List ℕ) (z t : ℕ) → AllDigits 10 ds → is_digit z ≡ false → is_in_range (signed negative (digits_value 10 ds)) ≡ true → AreNext input t (ds ++ z ∷ [])
      → run_from (ws_rule code) input (moment output (reading_on c address (Digits negative 0)) t) (length ds + 1) ≡ moment output (closed c address (signed negative (digits_value 10 ds))) (t + length ds + 1)
  signed_read negative ds z t all other fits next =
      let cut = next_split input t ds (z ∷ []) next in
      let close : applied (ws_rule code) input (moment output (reading_on c address (Digits negative (digits_value 10 ds))) (t + length ds)) ≡ moment output (closed c address (signed negative (digits_value 10 ds))) (t + length ds + 1) =
      on_digits negative (digits_value 10 ds) (t + length ds) ∙ rw (cut.1.0, other) refl in
      run_from-add (ws_rule code) input (moment output (reading_on c address (Digits negative 0)) t) (length ds) 1
      ∙ (ap (applied (ws_rule code) input) (digits_read negative ds 0 t all fits cut.0) ∙ close)

  -- before a byte that is no blank and no sign it is as behind a plus
  without_sign : (t b : ℕ) → input_at input t ≡ b → IsOther b
      → applied (ws_rule code) input (moment output (reading_on c address Blanks) t) ≡ applied (ws_rule code) input (moment output (reading_on c address (Digits false 0)) t)
  without_sign t b is other =
      let same : moment output (after_blanks (reading_on c address Blanks) address (input_at input t)) (t + 1) ≡ moment output (after_digits (reading_on c address (Digits false 0)) address false 0 (input_at input t)) (t + 1) =
      rw (is, other.blank, other.plus, other.minus) refl in
      on_blanks t ∙ (same ∙ sym (on_digits false 0 t))

  -- a sign, if there is one, digits, and a byte that closes the number
  unblanked : (sign : Option Bool) (ds : List ℕ) (z t : ℕ) → AllDigits 10 ds → is_digit z ≡ false → (sign ≡ None → ds ≡ [] → IsOther z)
      → is_in_range (signed (is_minus sign) (digits_value 10 ds)) ≡ true → AreNext input t (sign_bytes sign ++ ds ++ z ∷ [])
      → run_from (ws_rule code) input (moment output (reading_on c address Blanks) t) (length (sign_bytes sign) + length ds + 1)
      ≡ moment output (closed c address (signed (is_minus sign) (digits_value 10 ds))) (t + (length (sign_bytes sign) + length ds + 1))
  unblanked (Some false) ds z t all other alone fits next =
      let sign : applied (ws_rule code) input (moment output (reading_on c address Blanks) t) ≡ moment output (reading_on c address (Digits false 0)) (t + 1) =
      on_blanks t ∙ rw next.0 refl in
      let e : 1 + length ds + 1 ≡ suc (length ds + 1) = omega arith in
      let f : t + 1 + length ds + 1 ≡ t + (1 + length ds + 1) = omega arith in
      ap (run_from (ws_rule code) input (moment output (reading_on c address Blanks) t)) e
      ∙ (one (moment output (reading_on c address Blanks) t) (length ds + 1)
      ∙ (ap (λ m. run_from (ws_rule code) input m (length ds + 1)) sign
      ∙ (signed_read false ds z (t + 1) all other fits next.1 ∙ ap (moment output (closed c address (signed false (digits_value 10 ds)))) f)))
  unblanked (Some true) ds z t all other alone fits next =
      let sign : applied (ws_rule code) input (moment output (reading_on c address Blanks) t) ≡ moment output (reading_on c address (Digits true 0)) (t + 1) =
      on_blanks t ∙ rw next.0 refl in
      let e : 1 + length ds + 1 ≡ suc (length ds + 1) = omega arith in
      let f : t + 1 + length ds + 1 ≡ t + (1 + length ds + 1) = omega arith in
      ap (run_from (ws_rule code) input (moment output (reading_on c address Blanks) t)) e
      ∙ (one (moment output (reading_on c address Blanks) t) (length ds + 1)
      ∙ (ap (λ m. run_from (ws_rule code) input m (length ds + 1)) sign
      ∙ (signed_read true ds z (t + 1) all other fits next.1 ∙ ap (moment output (closed c address (signed true (digits_value 10 ds)))) f)))
  unblanked None ds z t all other alone fits next =
      let e : 0 + length ds + 1 ≡ suc (length ds) = omega arith in
      let back : suc (length ds) ≡ length ds + 1 = omega arith in
      let f : t + length ds + 1 ≡ t + (0 + length ds + 1) = omega arith in
      let same : applied (ws_rule code) input (moment output (reading_on c address Blanks) t) ≡ applied (ws_rule code) input (moment output (reading_on c address (Digits false 0)) t) = first ds all (alone refl) next in
      ap (run_from (ws_rule code) input (moment output (reading_on c address Blanks) t)) e
      ∙ (one (moment output (reading_on c address Blanks) t) (length ds)
      ∙ (ap (λ m. run_from (ws_rule code) input m (length ds)) same
      ∙ (sym (one (moment output (reading_on c address (Digits false 0)) t) (length ds))
      ∙ (ap (run_from (ws_rule code) input (moment output (reading_on c address (Digits false 0)) t)) back
      ∙ (signed_read false ds z t all other fits next ∙ ap (moment output (closed c address (signed false (digits_value 10 ds)))) f)))))
    where
      first : (ds : List ℕ) → AllDigits 10 ds → (ds ≡ [] → IsOther z) → AreNext input t (ds ++ z ∷ [])
          → applied (ws_rule code) input (moment output (reading_on c address Blanks) t) ≡ applied (ws_rule code) input (moment output (reading_on c address (Digits false 0)) t)
      first [] all alone next = without_sign t z next.0 (alone refl)
      first (d ∷ ds) all alone next = without_sign t d next.0 (digit_other d all.0)

  -- blanks, a sign at most, digits and the byte that closes the number: each is taken in a step of its own, and the number is stored
  pub number_is_stored : (blanks : List ℕ) (sign : Option Bool) (ds : List ℕ) (z t : ℕ) → AllByRecursion (λ b. is_blank b ≡ true) blanks → AllDigits 10 ds → is_digit z ≡ false → (sign ≡ None → ds ≡ [] → IsOther z)
      → is_in_range (signed (is_minus sign) (digits_value 10 ds)) ≡ true → AreNext input t (blanks ++ (sign_bytes sign ++ ds ++ z ∷ []))
      → run_from (ws_rule code) input (moment output (reading_on c address Blanks) t) (length blanks + (length (sign_bytes sign) + length ds + 1))
      ≡ moment output (closed c address (signed (is_minus sign) (digits_value 10 ds))) (t + (length blanks + (length (sign_bytes sign) + length ds + 1)))
  number_is_stored blanks sign ds z t blank all other alone fits next =
      let cut = next_split input t blanks (sign_bytes sign ++ ds ++ z ∷ []) next in
      let rest : ℕ = length (sign_bytes sign) + length ds + 1 in
      let e : t + length blanks + rest ≡ t + (length blanks + rest) = omega arith in
      run_from-add (ws_rule code) input (moment output (reading_on c address Blanks) t) (length blanks) rest
      ∙ (ap (λ m. run_from (ws_rule code) input m rest) (blanks_read blanks t blank cut.0)
      ∙ (unblanked sign ds z (t + length blanks) all other alone fits cut.1 ∙ ap (moment output (closed c address (signed (is_minus sign) (digits_value 10 ds)))) e))
