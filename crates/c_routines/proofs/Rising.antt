-- The labels of the routines rise.
use Rattle.std.proofs.Common.{◌≡◌, ℕ, zero, suc, ◌+◌, ◌-◌, ◌*◌, ◌^◌, ◌<◌, ◌≤◌, Bool, true, false, List, [], ◌∷◌, ◌++◌, refl, sym, subst, arith, mod-eq_of_lt}
use Rattle.c_routines.specs.declared.item.Item.{Item}
use Rattle.c_routines.specs.declared.item.Item.TheVariants.{Does, Label, Jump, JumpIf, MoveLabel}
use Rattle.c_routines.specs.declared.radix.Radix.TheVariants.{Ten, Sixteen}
use Rattle.c_routines.specs.declared.routine.Routine.{Routine}
use Rattle.c_routines.specs.declared.routine.Routine.TheVariants.{Product, Divide, SignedDivide, Both, Some, One, Left, Right, SignedRight, Unsigned, Decimal, Hexadecimal, Text}
use Rattle.c_routines.specs.declared.routine.Used.{Used}
use Rattle.c_routines.specs.Items.{label_of}
use Rattle.c_routines.specs.Cuts.{Rises}
use Rattle.c_routines.specs.Product.{product, bits}
use Rattle.c_routines.specs.Divide.{divide, falls, rises}
use Rattle.c_routines.specs.SignedDivide.{signed_divide}
use Rattle.c_routines.specs.Both.{both, masks}
use Rattle.c_routines.specs.Some.{some, one}
use Rattle.c_routines.specs.Left.{left, doublings}
use Rattle.c_routines.specs.Right.{right, pieces}
use Rattle.c_routines.specs.SignedRight.{signed_right}
use Rattle.c_routines.specs.Numeral.{places, finds}
use Rattle.c_routines.specs.Decimal.{decimal}
use Rattle.c_routines.specs.Text.{text}
use Rattle.c_routines.specs.Routines.{all, number, needs, entry, own, code_of, routine_of, each_of, routines, RoutinesRise}
use Rattle.c_routines.proofs.Codes.{not_needed, needed}

label_at : (base j : ℕ) → base + j < 2 ^ 32 → label_of base j ≡ base + j
unfolding label_of
label_at base j lt = mod-eq_of_lt lt

lower : (items : List Item) (low high : ℕ) → low ≤ high → Rises high items → Rises low items
lower [] low high le h = tt
lower (Label l ∷ items) low high le h = (omega (arith, le, h.0), h.1)
lower (Does op ∷ items) low high le h = lower items low high le h
lower (Jump l ∷ items) low high le h = lower items low high le h
lower (JumpIf test l r v ∷ items) low high le h = lower items low high le h
lower (MoveLabel r l ∷ items) low high le h = lower items low high le h

-- the code of a routine whose labels begin with b, before other code
module _ (b : ℕ) (room : b + 63 ≤ 2 ^ 32) (rest : List Item) (after : Rises (b + 63) rest) where
  at : (j : ℕ) → j < 63 → label_of b j ≡ b + j
  at j lt = label_at b j (omega (arith, lt, room))

  bits_rise : (k : ℕ) → k ≤ 24 → Rises (b + (25 - k)) (bits b k ++ rest)
  unfolding bits
  bits_rise zero le = lower rest (b + 25) (b + 63) (omega arith) after
  bits_rise (suc zero) le =
      let e : label_of b (24) ≡ b + (24) = at (24) (omega (arith)) in
      (omega (arith, e), lower (bits b 0 ++ rest) (suc (label_of b (24))) (b + 25) (omega (arith, e)) (bits_rise zero (omega arith)))
  bits_rise (suc (suc k)) le =
      let e : label_of b (24 - suc k) ≡ b + (24 - suc k) = at (24 - suc k) (omega (arith, le)) in
      (omega (arith, e, le), lower (bits b (suc k) ++ rest) (suc (label_of b (24 - suc k))) (b + (25 - suc k)) (omega (arith, e, le)) (bits_rise (suc k) (omega (arith, le))))

  product_rises : Rises b (product b ++ rest)
  product_rises =
      let e : label_of b (0) ≡ b + (0) = at (0) (omega (arith)) in
      let f : label_of b (1) ≡ b + (1) = at (1) (omega (arith)) in
      (omega (arith, e), (omega (arith, e, f), lower (bits b 23 ++ rest) (suc (label_of b (1))) (b + 2) (omega (arith, f)) (bits_rise 23 (omega arith))))

  falls_rise : (first k : ℕ) → k ≤ 24 → Rises (b + (48 - 2 * k)) (falls b first k ++ rest)
  unfolding falls
  falls_rise first zero le = lower rest (b + 48) (b + 63) (omega arith) after
  falls_rise first (suc k) le =
      let e : label_of b (2 * (23 - k)) ≡ b + (2 * (23 - k)) = at (2 * (23 - k)) (omega (arith, le)) in
      let f : label_of b (2 * (23 - k) + 1) ≡ b + (2 * (23 - k) + 1) = at (2 * (23 - k) + 1) (omega (arith, le)) in
      (omega (arith, e, le), (omega (arith, e, f, le), lower (falls b first k ++ rest) (suc (label_of b (2 * (23 - k) + 1))) (b + (48 - 2 * k)) (omega (arith, f, le)) (falls_rise first k (omega (arith, le)))))

  rises_rise : (first above k : ℕ) → above + k ≡ 23 → Rises b (rises b first above k ++ rest)
  unfolding rises
  rises_rise first zero k same =
      let e : label_of b (2 * (23 - k)) ≡ b + (2 * (23 - k)) = at (2 * (23 - k)) (omega (arith, same)) in
      let f : label_of b (2 * (23 - k) + 1) ≡ b + (2 * (23 - k) + 1) = at (2 * (23 - k) + 1) (omega (arith, same)) in
      (omega (arith, e, same), (omega (arith, e, f, same), lower (falls b first k ++ rest) (suc (label_of b (2 * (23 - k) + 1))) (b + (48 - 2 * k)) (omega (arith, f, same)) (falls_rise first k (omega (arith, same)))))
  rises_rise first (suc above) k same = rises_rise first above (suc k) (omega (arith, same))

  divide_rises : (first : ℕ) → Rises b (divide b first ++ rest)
  divide_rises first = rises_rise first 23 0 (omega arith)

  signed_divide_rises : (to first : ℕ) → Rises b (signed_divide to b first ++ rest)
  signed_divide_rises to first =
      let e0 : label_of b (0) ≡ b + (0) = at (0) (omega (arith)) in
      let e1 : label_of b (1) ≡ b + (1) = at (1) (omega (arith)) in
      let e2 : label_of b (2) ≡ b + (2) = at (2) (omega (arith)) in
      let e3 : label_of b (3) ≡ b + (3) = at (3) (omega (arith)) in
      let e4 : label_of b (4) ≡ b + (4) = at (4) (omega (arith)) in
      let e5 : label_of b (5) ≡ b + (5) = at (5) (omega (arith)) in
      (omega (arith, e0), (omega (arith, e0, e1), (omega (arith, e1, e2), (omega (arith, e2, e3), (omega (arith, e3, e4), (omega (arith, e4, e5), lower (rest) (suc (label_of b (5))) (b + 63) (omega (arith, e5)) (after)))))))

  masks_rise : (k : ℕ) → k ≤ 24 → Rises (b + (50 - 2 * k)) (masks b k ++ rest)
  unfolding masks
  masks_rise zero le = lower rest (b + 50) (b + 63) (omega arith) after
  masks_rise (suc k) le =
      let e : label_of b (2 * (23 - k) + 2) ≡ b + (2 * (23 - k) + 2) = at (2 * (23 - k) + 2) (omega (arith, le)) in
      let f : label_of b (2 * (23 - k) + 3) ≡ b + (2 * (23 - k) + 3) = at (2 * (23 - k) + 3) (omega (arith, le)) in
      (omega (arith, e, le), (omega (arith, e, f, le), lower (masks b k ++ rest) (suc (label_of b (2 * (23 - k) + 3))) (b + (50 - 2 * k)) (omega (arith, f, le)) (masks_rise k (omega (arith, le)))))

  both_rises : Rises b (both b ++ rest)
  both_rises =
      let e : label_of b (0) ≡ b + (0) = at (0) (omega (arith)) in
      let f : label_of b (1) ≡ b + (1) = at (1) (omega (arith)) in
      (omega (arith, e), (omega (arith, e, f), lower (masks b 24 ++ rest) (suc (label_of b (1))) (b + 2) (omega (arith, f)) (masks_rise 24 (omega arith))))

  some_rises : (to first : ℕ) → Rises b (some to b first ++ rest)
  some_rises to first =
      let e0 : label_of b (0) ≡ b + (0) = at (0) (omega (arith)) in
      (omega (arith, e0), lower (rest) (suc (label_of b (0))) (b + 63) (omega (arith, e0)) (after))

  one_rises : (to first : ℕ) → Rises b (one to b first ++ rest)
  one_rises to first =
      let e0 : label_of b (0) ≡ b + (0) = at (0) (omega (arith)) in
      (omega (arith, e0), lower (rest) (suc (label_of b (0))) (b + 63) (omega (arith, e0)) (after))

  doublings_rise : (k : ℕ) → k ≤ 24 → Rises (b + (25 - k)) (doublings b k ++ rest)
  unfolding doublings
  doublings_rise zero le = lower rest (b + 25) (b + 63) (omega arith) after
  doublings_rise (suc k) le =
      let e : label_of b (24 - k) ≡ b + (24 - k) = at (24 - k) (omega (arith, le)) in
      (omega (arith, e, le), lower (doublings b k ++ rest) (suc (label_of b (24 - k))) (b + (25 - k)) (omega (arith, e, le)) (doublings_rise k (omega (arith, le))))

  left_rises : Rises b (left b ++ rest)
  left_rises =
      let e : label_of b (0) ≡ b + (0) = at (0) (omega (arith)) in
      (omega (arith, e), lower (doublings b 24 ++ rest) (suc (label_of b (0))) (b + 1) (omega (arith, e)) (doublings_rise 24 (omega arith)))

  pieces_rise : (k : ℕ) → k ≤ 24 → Rises (b + (25 - k)) (pieces b k ++ rest)
  unfolding pieces
  pieces_rise zero le = lower rest (b + 25) (b + 63) (omega arith) after
  pieces_rise (suc k) le =
      let e : label_of b (24 - k) ≡ b + (24 - k) = at (24 - k) (omega (arith, le)) in
      (omega (arith, e, le), lower (pieces b k ++ rest) (suc (label_of b (24 - k))) (b + (25 - k)) (omega (arith, e, le)) (pieces_rise k (omega (arith, le))))

  right_rises : Rises b (right b ++ rest)
  right_rises =
      let e : label_of b (0) ≡ b + (0) = at (0) (omega (arith)) in
      let f : label_of b (1) ≡ b + (1) = at (1) (omega (arith)) in
      (omega (arith, e), (omega (arith, e, f), lower (pieces b 23 ++ rest) (suc (label_of b (1))) (b + 2) (omega (arith, f)) (pieces_rise 23 (omega arith))))

  signed_right_rises : (to first : ℕ) → Rises b (signed_right to b first ++ rest)
  signed_right_rises to first =
      let e0 : label_of b (0) ≡ b + (0) = at (0) (omega (arith)) in
      let e1 : label_of b (1) ≡ b + (1) = at (1) (omega (arith)) in
      (omega (arith, e0), (omega (arith, e0, e1), lower (rest) (suc (label_of b (1))) (b + 63) (omega (arith, e1)) (after)))

  decimal_places_rise : (k : ℕ) → k ≤ 7 → Rises (b + (28 - 4 * k)) (places Ten b k ++ rest)
  unfolding places
  decimal_places_rise zero le =
      let e28 : label_of b (28) ≡ b + (28) = at (28) (omega (arith)) in
      (omega (arith, e28), lower (rest) (suc (label_of b (28))) (b + 63) (omega (arith, e28)) (after))
  decimal_places_rise (suc k) le =
      let e : label_of b (4 * (7 - suc k)) ≡ b + (4 * (7 - suc k)) = at (4 * (7 - suc k)) (omega (arith, le)) in
      let f : label_of b (4 * (7 - suc k) + 1) ≡ b + (4 * (7 - suc k) + 1) = at (4 * (7 - suc k) + 1) (omega (arith, le)) in
      let g : label_of b (4 * (7 - suc k) + 2) ≡ b + (4 * (7 - suc k) + 2) = at (4 * (7 - suc k) + 2) (omega (arith, le)) in
      (omega (arith, e, le), (omega (arith, e, f, le), (omega (arith, f, g, le), lower (places Ten b k ++ rest) (suc (label_of b (4 * (7 - suc k) + 2))) (b + (28 - 4 * k)) (omega (arith, g, le)) (decimal_places_rise k (omega (arith, le))))))

  hexadecimal_places_rise : (k : ℕ) → k ≤ 5 → Rises (b + (20 - 4 * k)) (places Sixteen b k ++ rest)
  unfolding places
  hexadecimal_places_rise zero le =
      let e20 : label_of b (20) ≡ b + (20) = at (20) (omega (arith)) in
      let e23 : label_of b (23) ≡ b + (23) = at (23) (omega (arith)) in
      (omega (arith, e20), (omega (arith, e20, e23), lower (rest) (suc (label_of b (23))) (b + 63) (omega (arith, e23)) (after)))
  hexadecimal_places_rise (suc k) le =
      let e : label_of b (4 * (5 - suc k)) ≡ b + (4 * (5 - suc k)) = at (4 * (5 - suc k)) (omega (arith, le)) in
      let f : label_of b (4 * (5 - suc k) + 1) ≡ b + (4 * (5 - suc k) + 1) = at (4 * (5 - suc k) + 1) (omega (arith, le)) in
      let g : label_of b (4 * (5 - suc k) + 2) ≡ b + (4 * (5 - suc k) + 2) = at (4 * (5 - suc k) + 2) (omega (arith, le)) in
      let h : label_of b (4 * (5 - suc k) + 3) ≡ b + (4 * (5 - suc k) + 3) = at (4 * (5 - suc k) + 3) (omega (arith, le)) in
      (omega (arith, e, le), (omega (arith, e, f, le), (omega (arith, f, g, le), (omega (arith, g, h, le), lower (places Sixteen b k ++ rest) (suc (label_of b (4 * (5 - suc k) + 3))) (b + (20 - 4 * k)) (omega (arith, h, le)) (hexadecimal_places_rise k (omega (arith, le)))))))

  decimal_finds_rise : (above k : ℕ) → above + k ≡ 7 → Rises b (finds Ten b above k ++ rest)
  unfolding finds
  decimal_finds_rise zero k e = lower (places Ten b k ++ rest) b (b + (28 - 4 * k)) (omega arith) (decimal_places_rise k (omega (arith, e)))
  decimal_finds_rise (suc above) k e = decimal_finds_rise above (suc k) (omega (arith, e))

  hexadecimal_finds_rise : (above k : ℕ) → above + k ≡ 5 → Rises b (finds Sixteen b above k ++ rest)
  unfolding finds
  hexadecimal_finds_rise zero k e = lower (places Sixteen b k ++ rest) b (b + (20 - 4 * k)) (omega arith) (hexadecimal_places_rise k (omega (arith, e)))
  hexadecimal_finds_rise (suc above) k e = hexadecimal_finds_rise above (suc k) (omega (arith, e))

  decimal_rises : (to : ℕ) → Rises b (decimal to b ++ rest)
  decimal_rises to =
      let e0 : label_of b (0) ≡ b + (0) = at (0) (omega (arith)) in
      (omega (arith, e0), lower (rest) (suc (label_of b (0))) (b + 63) (omega (arith, e0)) (after))

  text_rises : Rises b (text b ++ rest)
  text_rises =
      let e0 : label_of b (0) ≡ b + (0) = at (0) (omega (arith)) in
      let e1 : label_of b (1) ≡ b + (1) = at (1) (omega (arith)) in
      (omega (arith, e0), (omega (arith, e0, e1), lower (rest) (suc (label_of b (1))) (b + 63) (omega (arith, e1)) (after)))

-- routines whose numbers follow one another, from this one on
abbrev InOrder : ℕ → List Routine → Type 0
InOrder n [] = Unit {0}
InOrder n (r ∷ rs) = (number r ≡ n) × InOrder (suc n) rs

few : (r : Routine) → number r < 13
few Product = omega arith
few Divide = omega arith
few SignedDivide = omega arith
few Both = omega arith
few Some = omega arith
few One = omega arith
few Left = omega arith
few Right = omega arith
few SignedRight = omega arith
few Unsigned = omega arith
few Decimal = omega arith
few Hexadecimal = omega arith
few Text = omega arith

module _ (base first : ℕ) where
  code_rises : (r : Routine) → own base r + 63 ≤ 2 ^ 32 → (rest : List Item) → Rises (own base r + 63) rest → Rises (own base r) (code_of base first r ++ rest)
  code_rises Product room rest h = product_rises (own base Product) room rest h
  code_rises Divide room rest h = divide_rises (own base Divide) room rest h first
  code_rises SignedDivide room rest h = signed_divide_rises (own base SignedDivide) room rest h (entry base Divide) first
  code_rises Both room rest h = both_rises (own base Both) room rest h
  code_rises Some room rest h = some_rises (own base Some) room rest h (entry base Both) first
  code_rises One room rest h = one_rises (own base One) room rest h (entry base Both) first
  code_rises Left room rest h = left_rises (own base Left) room rest h
  code_rises Right room rest h = right_rises (own base Right) room rest h
  code_rises SignedRight room rest h = signed_right_rises (own base SignedRight) room rest h (entry base Right) first
  code_rises Unsigned room rest h = decimal_finds_rise (own base Unsigned) room rest h 7 0 refl
  code_rises Decimal room rest h = decimal_rises (own base Decimal) room rest h (entry base Unsigned)
  code_rises Hexadecimal room rest h = hexadecimal_finds_rise (own base Hexadecimal) room rest h 5 0 refl
  code_rises Text room rest h = text_rises (own base Text) room rest h

  module _ (u : Used) (room : base + 832 ≤ 2 ^ 32) where
    -- a routine before those that come later
    routine_rises : (r : Routine) → number r < 13 → (rest : List Item) → Rises (base + 64 * number r + 64) rest → Rises (base + 64 * number r) (routine_of u base first r ++ rest)
    routine_rises r few rest h = go (needs u r) refl
      where
        go : (t : Bool) → needs u r ≡ t → Rises (base + 64 * number r) (routine_of u base first r ++ rest)
        go false e = subst (λ z. Rises (base + 64 * number r) (z ++ rest)) (sym (not_needed u base first r e)) (lower rest (base + 64 * number r) (base + 64 * number r + 64) (omega arith) h)
        go true e =
            let at_entry : entry base r ≡ base + 64 * number r = label_at base (64 * number r) (omega (arith, few, room)) in
            let plain : label_of (entry base r) 1 ≡ entry base r + 1 = label_at (entry base r) 1 (omega (arith, at_entry, few, room)) in
            let past : base + 64 * number r + 64 ≡ own base r + 63 = omega (arith, at_entry, plain) in
            let next : own base r ≡ suc (entry base r) = omega (arith, plain) in
            let code : Rises (own base r) (code_of base first r ++ rest) = code_rises r (omega (arith, at_entry, plain, few, room)) rest (subst (λ l. Rises l rest) past h) in
            subst (λ z. Rises (base + 64 * number r) (z ++ rest)) (sym (needed u base first r e))
            (omega (arith, at_entry), subst (λ l. Rises l (code_of base first r ++ rest)) next code)

    each_rise : (rs : List Routine) (n : ℕ) → InOrder n rs → Rises (base + 64 * n) (each_of rs u base first)
    each_rise [] n is = tt
    each_rise (r ∷ rs) n is =
        let next : base + 64 * suc n ≡ base + 64 * number r + 64 = omega (arith, is.0) in
        subst (λ z. Rises (base + 64 * z) (each_of (r ∷ rs) u base first)) is.0
        (routine_rises r (few r) (each_of rs u base first) (subst (λ l. Rises l (each_of rs u base first)) next (each_rise rs (suc n) is.1)))

pub routines_rise : RoutinesRise
routines_rise u base first room =
    let lowest : base + 64 * 0 ≡ base = omega arith in
    subst (λ l. Rises l (routines u base first)) lowest (each_rise base first u room all 0 (refl, (refl, (refl, (refl, (refl, (refl, (refl, (refl, (refl, (refl, (refl, (refl, (refl, tt))))))))))))))
